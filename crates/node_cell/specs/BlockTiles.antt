-- The tiles of blocks: wires alone, or a cap, a part of the netlist and wires that lead it out, from north to south.
use Rattle.std.specs.Prelude.{ℕ, ◌+◌, ◌-◌, ◌*◌, ◌==◌, nat_lt, nat_le, Bool, if◌then◌else◌, Option, Some, None, List, [], ◌∷◌, map, find}
use Rattle.std.specs.List.{range_with_len}
use Rattle.std.specs.Option.{option_map, option_map_or, option_and_then}
use Rattle.rx_lang.specs.Tables.{Tables}
use Rattle.star_normal.specs.declared.node.Node.{Node}
use Rattle.star_normal.specs.declared.node.NodeKind.{NodeKind}
use Rattle.star_normal.specs.declared.node.NodeKind.TheVariants.{Leaf, Seq, Alt}
use Rattle.star_normal.specs.Tables.{TreeTable}
use Rattle.stick_grid.specs.Plans.{Plan}
use Rattle.nor_net.specs.Part.{PartTables}
use Rattle.gate_matrix.specs.Drawn.{part_plan}
use Rattle.wiring.specs.Wirings.{Span, Run, Wiring, wiring_tile}
use Rattle.block_grid.specs.declared.kind.Turn.{Turn}
use Rattle.block_grid.specs.declared.kind.Turn.TheVariants.{NorthEast, NorthWest, SouthEast, SouthWest}
use Rattle.block_grid.specs.declared.kind.BlockKind.{BlockKind}
use Rattle.block_grid.specs.declared.kind.BlockKind.TheVariants.{Empty, Horizontal, Vertical, Cross, Corner, Node as NodeBlock, Frame as FrameBlock}
use Rattle.cell_network.specs.declared.numbering.Counts.{Counts}
use Rattle.cell_network.specs.Parts.{bundle, inn_wire, counts_of, node_at, part_of}
use Rattle.node_cell.specs.Blocks.{block_side, wire_col, wire_row, net_in_col, wire_in_row, is_left_light, light_net, heavy_net}

abbrev pub span : ℕ → ℕ → ℕ → Span
span first last net = record { first = first; last = last; net = net }

abbrev pub run : Option ℕ → Option ℕ → ℕ → Run
run from to net = record { from = from; to = to; net = net }

-- ---- blocks of wires alone

-- columns and rows of wires, by what a wire has in its column, and in its row
abbrev pub wires_of : Counts → (ℕ → List Span) → (ℕ → Option Run) → Wiring
wires_of c spans runs = record {
  rows = block_side c;
  cols = block_side c;
  spans = λ col. option_map_or spans (net_in_col (bundle c) col) [];
  run = λ row. option_and_then runs (wire_in_row c row);
}

-- from north to south, and from west to east
abbrev pub upright : Counts → ℕ → List Span
upright c i = span 0 (block_side c) i ∷ []

abbrev pub level : ℕ → ℕ → Option Run
level first i = Some (run None None (first + i))

-- Poly from a side to the wire's row, and metal from there to a side.
abbrev pub to_north : Counts → ℕ → List Span
to_north c i = span 0 (wire_row c i) i ∷ []

abbrev pub to_south : Counts → ℕ → List Span
to_south c i = span (wire_row c i + 1) (block_side c) i ∷ []

abbrev pub to_east : ℕ → Option Run
to_east i = Some (run (Some (wire_col i)) None i)

abbrev pub to_west : ℕ → Option Run
to_west i = Some (run None (Some (wire_col i)) i)

abbrev pub corner : Counts → Turn → Wiring
corner c NorthEast = wires_of c (to_north c) to_east
corner c NorthWest = wires_of c (to_north c) to_west
corner c SouthEast = wires_of c (to_south c) to_east
corner c SouthWest = wires_of c (to_south c) to_west

-- no poly, no metal
abbrev pub no_spans : ℕ → List Span
no_spans i = []

abbrev pub no_runs : ℕ → Option Run
no_runs i = None

-- ---- blocks of a node

-- how many rows the part is drawn in
abbrev pub part_rows : Counts → ℕ
part_rows c = block_side c - 2 * bundle c - 4

-- The row above the part: the columns of wires that come from the north pass, and those of all other nets begin.
abbrev pub cap : Counts → ℕ → ℕ → Wiring
cap c nets coming = record {
  rows = 1;
  cols = block_side c;
  spans = λ col. option_map_or (λ net. span (if nat_lt net coming then 0 else 1) 1 net ∷ []) (net_in_col nets col) [];
  run = λ row. None;
}

-- the part, each net in the column of its number
abbrev pub drawn_part : Counts → PartTables → Plan
drawn_part c part = part_plan part (map wire_col (range_with_len 0 part.nets)) (part_rows c) (block_side c)

-- The rows below the part. Row 0 ends the columns that go no further, rows 1 and 2 take IN and OUT of the light child to the columns of
-- the bundle, and each wire of the bundle to the east has a row, from row 3 on, with another behind it.
abbrev pub foot_rows : Counts → ℕ
foot_rows c = 2 * bundle c + 3

abbrev pub foot_row : ℕ → ℕ
foot_row i = 3 + 2 * i

abbrev pub foot : Counts → ℕ → (ℕ → List Span) → (ℕ → Option Run) → Wiring
foot c nets spans runs = record {
  rows = foot_rows c;
  cols = block_side c;
  spans = λ col. option_map_or spans (net_in_col nets col) [];
  run = runs;
}

-- the column of a net ends
abbrev pub ended : ℕ → List Span
ended net = span 0 0 net ∷ []

-- the wire of the bundle to the east whose row this is
abbrev pub east_wire : Counts → ℕ → Option ℕ
east_wire c row = find (λ i. foot_row i == row) (range_with_len 0 (bundle c))

-- The frame: each wire of the bundle leads out to the east, and all other columns end.
abbrev pub frame_spans : Counts → ℕ → List Span
frame_spans c net = if nat_lt net (bundle c) then span 0 (foot_row net) net ∷ [] else ended net

abbrev pub east_runs : Counts → (ℕ → ℕ) → ℕ → Option Run
east_runs c net_of row = option_map (λ i. run (Some (wire_col (net_of i))) None (net_of i)) (east_wire c row)

-- A node with two children: wires other than IN and OUT lead through to the south and out to the east. The columns of IN and OUT end, and those of
-- the light child's IN and OUT take their places; the heavy child's IN and OUT lead out to the east.
abbrev pub pair_spans : Counts → Bool → ℕ → List Span
pair_spans c left_light net =
    let inn = inn_wire c in
    let out = inn_wire c + 1 in
    if net == inn then span 0 0 net ∷ span 2 (foot_rows c) (light_net c left_light inn) ∷ []
    else if net == out then span 0 0 net ∷ span 3 (foot_rows c) (light_net c left_light out) ∷ []
    else if nat_lt net (bundle c) then span 0 (foot_rows c) net ∷ []
    else if net == light_net c left_light inn then span 0 1 net ∷ []
    else if net == light_net c left_light out then span 0 2 net ∷ []
    else if net == heavy_net c left_light inn then span 0 (foot_row inn) net ∷ []
    else if net == heavy_net c left_light out then span 0 (foot_row out) net ∷ []
    else ended net

abbrev pub pair_run : Counts → Bool → ℕ → Option Run
pair_run c left_light row =
    if row == 1 then Some (run (Some (wire_col (inn_wire c))) (Some (wire_col (light_net c left_light (inn_wire c)))) (light_net c left_light (inn_wire c)))
    else if row == 2 then
    Some (run (Some (wire_col (inn_wire c + 1))) (Some (wire_col (light_net c left_light (inn_wire c + 1)))) (light_net c left_light (inn_wire c + 1)))
    else east_runs c (heavy_net c left_light) row

-- the foot of a node's block
abbrev pub node_foot : Counts → List Node → ℕ → NodeKind → Wiring
node_foot c nodes nets (Leaf s) = foot c nets ended no_runs
node_foot c nodes nets (Seq left right) = foot c nets (pair_spans c (is_left_light nodes left right)) (pair_run c (is_left_light nodes left right))
node_foot c nodes nets (Alt left right) = foot c nets (pair_spans c (is_left_light nodes left right)) (pair_run c (is_left_light nodes left right))

abbrev pub frame_foot : Counts → ℕ → Wiring
frame_foot c nets = foot c nets (frame_spans c) (east_runs c (λ i. i))

-- a cap above a part above a foot
abbrev pub stacked_tile : Counts → Wiring → PartTables → Wiring → ℕ → ℕ → ℕ
stacked_tile c top part bottom row col =
    if row == 0 then wiring_tile top 0 col
    else if nat_le row (part_rows c) then (drawn_part c part).tile (row - 1) col
    else wiring_tile bottom (row - 1 - part_rows c) col

abbrev pub node_tile : Counts → TreeTable → PartTables → NodeKind → ℕ → ℕ → ℕ
node_tile c tree part kind = stacked_tile c (cap c part.nets (bundle c)) part (node_foot c tree.nodes part.nets kind)

abbrev pub frame_tile : Counts → PartTables → ℕ → ℕ → ℕ
frame_tile c part = stacked_tile c (cap c part.nets 0) part (frame_foot c part.nets)

-- ---- the tile of a block in a row and column

abbrev pub block_tile : TreeTable → Tables → BlockKind → ℕ → ℕ → ℕ
block_tile tree tables Empty = wiring_tile (wires_of (counts_of tree tables) no_spans no_runs)
block_tile tree tables Horizontal = wiring_tile (wires_of (counts_of tree tables) no_spans (level 0))
block_tile tree tables Vertical = wiring_tile (wires_of (counts_of tree tables) (upright (counts_of tree tables)) no_runs)
block_tile tree tables Cross = wiring_tile (wires_of (counts_of tree tables) (upright (counts_of tree tables)) (level (bundle (counts_of tree tables))))
block_tile tree tables (Corner turn) = wiring_tile (corner (counts_of tree tables) turn)
block_tile tree tables (NodeBlock v) = node_tile (counts_of tree tables) tree (part_of tree tables v) (node_at tree.nodes v).kind
block_tile tree tables (FrameBlock v) = frame_tile (counts_of tree tables) (part_of tree tables v)

abbrev pub block_plan : TreeTable → Tables → BlockKind → Plan
block_plan tree tables kind = record { rows = block_side (counts_of tree tables); cols = block_side (counts_of tree tables); tile = block_tile tree tables kind }
