-- Blocks of a tree's layout as modules: how large they are, which nets and devices they have, and which nets lead out at their sides.
use Rattle.std.specs.Prelude.{◌≡◌, ⊤, ℕ, ◌+◌, ◌-◌, ◌*◌, ◌<◌, ◌==◌, nat_le, Bool, true, false, if◌then◌else◌, Option, Some, None, List, [], length, find}
use Rattle.std.specs.List.{range_with_len}
use Rattle.std.specs.Option.{option_and_then}
use Rattle.geom.specs.declared.layer.Layer.TheVariants as layers
use Rattle.rx_lang.specs.Tables.{Tables}
use Rattle.star_normal.specs.declared.node.Node.{Node}
use Rattle.star_normal.specs.declared.node.NodeKind.{NodeKind}
use Rattle.star_normal.specs.declared.node.NodeKind.TheVariants.{Leaf, Seq, Alt}
use Rattle.star_normal.specs.Sizes.{size_at}
use Rattle.star_normal.specs.Tables.{TreeTable}
use Rattle.micro_tiles.specs.declared.side.Side.{Side}
use Rattle.micro_tiles.specs.declared.side.Side.TheVariants.{North, East, South, West}
use Rattle.switch_net.specs.declared.network.Device.{Device}
use Rattle.stick_grid.specs.Modules.{Border}
use Rattle.nor_net.specs.Part.{part_devices}
use Rattle.block_grid.specs.declared.kind.Turn.{Turn}
use Rattle.block_grid.specs.declared.kind.Turn.TheVariants.{NorthEast, NorthWest, SouthEast, SouthWest}
use Rattle.block_grid.specs.declared.kind.BlockKind.{BlockKind}
use Rattle.block_grid.specs.declared.kind.BlockKind.TheVariants.{Empty, Horizontal, Vertical, Cross, Corner, Node as NodeBlock, Frame as FrameBlock}
use Rattle.cell_network.specs.declared.numbering.Counts.{Counts}
use Rattle.cell_network.specs.Parts.{bundle, inn_wire, pair_numbers, counts_of, node_at, part_of}

-- ---- sizes

-- how many rows and columns of tiles a block has: ten for each line, symbol and output, and 60
abbrev pub block_side : Counts → ℕ
block_side c = 10 * (c.lines + c.symbols + c.outputs) + 60

-- the column of a wire that runs north and south in poly, and the row of one that runs east and west in metal
abbrev pub wire_col : ℕ → ℕ
wire_col i = 2 + 2 * i

abbrev pub wire_row : Counts → ℕ → ℕ
wire_row c i = block_side c - 2 * bundle c + 2 * i

-- which of so many columns, or which wire's row, this is
abbrev pub net_in_col : ℕ → ℕ → Option ℕ
net_in_col nets col = find (λ i. wire_col i == col) (range_with_len 0 nets)

abbrev pub wire_in_row : Counts → ℕ → Option ℕ
wire_in_row c row = find (λ i. wire_row c i == row) (range_with_len 0 (bundle c))

-- ---- nets

-- the net of a node's part that is a wire of its left part's bundle, or of its right part's
abbrev pub left_net : Counts → ℕ → ℕ
left_net c i = if i == inn_wire c then (pair_numbers c).begins else if i == inn_wire c + 1 then (pair_numbers c).left_out else i

abbrev pub right_net : Counts → ℕ → ℕ
right_net c i = if i == inn_wire c then (pair_numbers c).right_in else if i == inn_wire c + 1 then (pair_numbers c).right_out else i

-- the left child has no more leaves than the right one
abbrev pub is_left_light : List Node → ℕ → ℕ → Bool
is_left_light nodes left right = nat_le (size_at nodes left) (size_at nodes right)

-- the net of a node's part that is a wire of its light child's bundle, or of its heavy child's
abbrev pub light_net : Counts → Bool → ℕ → ℕ
light_net c left_light i = if left_light then left_net c i else right_net c i

abbrev pub heavy_net : Counts → Bool → ℕ → ℕ
heavy_net c left_light i = if left_light then right_net c i else left_net c i

-- the net of a block that a wire of the bundle at a side is, where a bundle leads out at that side
abbrev pub SideNets : Type 0
SideNets = Side → ℕ → Option ℕ

-- The bundle to the parent leads out to the north, the one to the light child to the south, the one to the heavy child to the east.
abbrev pub pair_sides : Counts → Bool → SideNets
pair_sides c left_light North i = Some i
pair_sides c left_light East i = Some (heavy_net c left_light i)
pair_sides c left_light South i = Some (light_net c left_light i)
pair_sides c left_light West i = None

abbrev pub leaf_sides : SideNets
leaf_sides North i = Some i
leaf_sides _ i = None

abbrev pub node_sides : Counts → List Node → NodeKind → SideNets
node_sides c nodes (Leaf s) = leaf_sides
node_sides c nodes (Seq left right) = pair_sides c (is_left_light nodes left right)
node_sides c nodes (Alt left right) = pair_sides c (is_left_light nodes left right)

-- The root is the frame's heavy child.
abbrev pub frame_sides : SideNets
frame_sides East i = Some i
frame_sides _ i = None

-- the corner joins the side with another one
abbrev pub is_joined : Turn → Side → Bool
is_joined NorthEast North = true
is_joined NorthEast East = true
is_joined NorthWest North = true
is_joined NorthWest West = true
is_joined SouthEast South = true
is_joined SouthEast East = true
is_joined SouthWest South = true
is_joined SouthWest West = true
is_joined _ _ = false

-- In a crossing the wires from north to south come first.
abbrev pub cross_sides : Counts → SideNets
cross_sides c North i = Some i
cross_sides c South i = Some i
cross_sides c East i = Some (bundle c + i)
cross_sides c West i = Some (bundle c + i)

abbrev pub horizontal_sides : SideNets
horizontal_sides East i = Some i
horizontal_sides West i = Some i
horizontal_sides _ i = None

abbrev pub vertical_sides : SideNets
vertical_sides North i = Some i
vertical_sides South i = Some i
vertical_sides _ i = None

abbrev pub corner_sides : Turn → SideNets
corner_sides turn side i = if is_joined turn side then Some i else None

abbrev pub no_sides : SideNets
no_sides side i = None

abbrev pub block_sides : TreeTable → Tables → BlockKind → SideNets
block_sides tree tables Empty = no_sides
block_sides tree tables Horizontal = horizontal_sides
block_sides tree tables Vertical = vertical_sides
block_sides tree tables Cross = cross_sides (counts_of tree tables)
block_sides tree tables (Corner turn) = corner_sides turn
block_sides tree tables (NodeBlock v) = node_sides (counts_of tree tables) tree.nodes (node_at tree.nodes v).kind
block_sides tree tables (FrameBlock v) = frame_sides

-- how many nets a block has
abbrev pub block_nets : TreeTable → Tables → BlockKind → ℕ
block_nets tree tables Empty = 0
block_nets tree tables Horizontal = bundle (counts_of tree tables)
block_nets tree tables Vertical = bundle (counts_of tree tables)
block_nets tree tables Cross = 2 * bundle (counts_of tree tables)
block_nets tree tables (Corner turn) = bundle (counts_of tree tables)
block_nets tree tables (NodeBlock v) = (part_of tree tables v).nets
block_nets tree tables (FrameBlock v) = (part_of tree tables v).nets

-- the devices of a block: those of the part of its node
abbrev pub block_devices : TreeTable → Tables → BlockKind → List Device
block_devices tree tables (NodeBlock v) = part_devices (part_of tree tables v)
block_devices tree tables (FrameBlock v) = part_devices (part_of tree tables v)
block_devices tree tables _ = []

-- the wire of the high supply
abbrev pub vdd_wire : Counts → ℕ
vdd_wire c = inn_wire c + 5

-- The wires of bundles lead out in poly to the north and to the south, and in metal to the east and to the west; nothing else does.
abbrev pub bundle_border : Counts → SideNets → Border
bundle_border c sides North col layers.Poly = option_and_then (sides North) (net_in_col (bundle c) col)
bundle_border c sides South col layers.Poly = option_and_then (sides South) (net_in_col (bundle c) col)
bundle_border c sides East row layers.Metal = option_and_then (sides East) (wire_in_row c row)
bundle_border c sides West row layers.Metal = option_and_then (sides West) (wire_in_row c row)
bundle_border c sides _ _ _ = None

abbrev pub block_border : TreeTable → Tables → BlockKind → Border
block_border tree tables kind = bundle_border (counts_of tree tables) (block_sides tree tables kind)

-- A node of the block is one of the tree, and its frame is the tree's.
abbrev pub IsBlockOf : TreeTable → BlockKind → Type 0
IsBlockOf tree (NodeBlock v) = v < length tree.nodes
IsBlockOf tree (FrameBlock v) = v ≡ length tree.nodes
IsBlockOf tree _ = ⊤
