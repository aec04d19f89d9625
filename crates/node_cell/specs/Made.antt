-- What a block is made of: bundles alone, or the matrix of a part with what leads to it and out of it.
use Rattle.std.specs.Prelude.{◌≡◌, ⊤, ℕ, ◌+◌, ◌-◌, ◌≤◌, ◌<◌, ◌^◌, ◌==◌, ◌||◌, ◌&&◌, nat_le, Bool, false, if◌then◌else◌, Option, List, length, map, All}
use Rattle.std.specs.List.{range_with_len}
use Rattle.std.specs.Option.{option_map_or}
use Rattle.rx_lang.specs.Tables.{Tables, IsSpecification}
use Rattle.star_normal.specs.declared.node.Node.{Node}
use Rattle.star_normal.specs.declared.node.NodeKind.{NodeKind}
use Rattle.star_normal.specs.declared.node.NodeKind.TheVariants.{Leaf, Seq, Alt}
use Rattle.star_normal.specs.Tables.{TreeTable, IsTree, whole}
use Rattle.star_normal.specs.Trees.{leaves}
use Rattle.gate_matrix.specs.Cells.{Matrix, matrix_tile}
use Rattle.gate_matrix.specs.Drawn.{part_matrix, FitsPart}
use Rattle.stick_grid.specs.Plans.{Plan}
use Rattle.nor_net.specs.Part.{PartTables}
use Rattle.wiring.specs.Wirings.{Span, Run, Wiring, begins_before, ends_behind, is_end, wiring_tile}
use Rattle.block_grid.specs.declared.kind.Turn.{Turn}
use Rattle.block_grid.specs.declared.kind.Turn.TheVariants.{NorthEast, NorthWest, SouthEast, SouthWest}
use Rattle.block_grid.specs.declared.kind.BlockKind.{BlockKind}
use Rattle.block_grid.specs.declared.kind.BlockKind.TheVariants.{Horizontal, Vertical, Cross, Corner}
use Rattle.cell_network.specs.declared.numbering.Counts.{Counts}
use Rattle.cell_network.specs.Home.{AreFew}
use Rattle.cell_network.specs.Parts.{bundle, inn_wire, counts_of, part_of}
use Rattle.node_cell.specs.declared.form.Form.{Form}
use Rattle.node_cell.specs.declared.form.Form.TheVariants as forms
use Rattle.node_cell.specs.Blocks.{block_side, wire_col, is_left_light}
use Rattle.node_cell.specs.BlockTiles.{wires_of, upright, level, to_north, to_south, to_east, to_west, no_spans, no_runs, part_rows, cap, foot, ended, frame_spans, east_runs, pair_spans, pair_run}

-- the metal of a row crosses the west border of a column, or has a contact in it
abbrev pub runs_over : Option Run → ℕ → Bool
runs_over run border = option_map_or (λ run. begins_before run.from border && ends_behind run.to border) run false

abbrev pub ends_in : Option Run → ℕ → Bool
ends_in run col = option_map_or (λ run. is_end col run.from || is_end col run.to) run false

-- ---- bundles alone

abbrev pub corner_spans : Counts → Turn → ℕ → List Span
corner_spans c NorthEast = to_north c
corner_spans c NorthWest = to_north c
corner_spans c SouthEast = to_south c
corner_spans c SouthWest = to_south c

abbrev pub corner_runs : Turn → ℕ → Option Run
corner_runs NorthEast = to_east
corner_runs NorthWest = to_west
corner_runs SouthEast = to_east
corner_runs SouthWest = to_west

abbrev pub wires_spans : Counts → BlockKind → ℕ → List Span
wires_spans c Vertical = upright c
wires_spans c Cross = upright c
wires_spans c (Corner turn) = corner_spans c turn
wires_spans c _ = no_spans

abbrev pub wires_runs : Counts → BlockKind → ℕ → Option Run
wires_runs c Horizontal = level 0
wires_runs c Cross = level (bundle c)
wires_runs c (Corner turn) = corner_runs turn
wires_runs c _ = no_runs

abbrev pub wires_tile : Counts → BlockKind → ℕ → ℕ → ℕ
wires_tile c kind = wiring_tile (wires_of c (wires_spans c kind) (wires_runs c kind))

-- ---- blocks of a part

-- the net of a node's part that is a wire of a child's bundle, where IN and OUT of the child stand so far behind the node's own bundle
abbrev pub child_net : Counts → ℕ → ℕ → ℕ
child_net c own i = if i == inn_wire c then bundle c + own else if i == inn_wire c + 1 then bundle c + own + 1 else i

-- how many wires come from the north
abbrev pub coming : Counts → Form → ℕ
coming c forms.Frame = 0
coming c _ = bundle c

abbrev pub foot_spans : Counts → Form → ℕ → List Span
foot_spans c (forms.Pair left_light) = pair_spans c left_light
foot_spans c forms.Frame = frame_spans c
foot_spans c _ = ended

abbrev pub foot_run : Counts → Form → ℕ → Option Run
foot_run c (forms.Pair left_light) = pair_run c left_light
foot_run c forms.Frame = east_runs c (λ i. i)
foot_run c _ = no_runs

-- a cap above a matrix above a foot
abbrev pub stack_tile : Counts → Wiring → Matrix → Wiring → ℕ → ℕ → ℕ
stack_tile c top matrix bottom row col =
    if row == 0 then wiring_tile top 0 col
    else if nat_le row (part_rows c) then matrix_tile matrix (row - 1) col
    else wiring_tile bottom (row - 1 - part_rows c) col

abbrev pub part_tile : Counts → Form → Matrix → ℕ → ℕ → ℕ
part_tile c form matrix =
    stack_tile c (cap c (length matrix.at) (coming c form)) matrix (foot c (length matrix.at) (foot_spans c form) (foot_run c form))

abbrev pub form_tile : Counts → Form → Matrix → ℕ → ℕ → ℕ
form_tile c (forms.Wires kind) matrix = wires_tile c kind
form_tile c forms.Leaf matrix = part_tile c forms.Leaf matrix
form_tile c (forms.Pair left_light) matrix = part_tile c (forms.Pair left_light) matrix
form_tile c forms.Frame matrix = part_tile c forms.Frame matrix

abbrev pub form_plan : Counts → Form → Matrix → Plan
form_plan c form matrix = record { rows = block_side c; cols = block_side c; tile = form_tile c form matrix }

-- a block by the sizes of its bundles, what it is made of, and the matrix of its part
pub record BlockShape : Type 0 where
  pub counts : Counts
  pub form : Form
  pub part : Matrix

abbrev pub shape_plan : BlockShape → Plan
shape_plan b = form_plan b.counts b.form b.part

-- what the block of a node of this kind is made of
abbrev pub form_of : List Node → NodeKind → Form
form_of nodes (Leaf s) = forms.Leaf
form_of nodes (Seq left right) = forms.Pair (is_left_light nodes left right)
form_of nodes (Alt left right) = forms.Pair (is_left_light nodes left right)

-- the matrix has the rows of a part
abbrev pub HasRows : Counts → Form → Matrix → Type 0
HasRows c (forms.Wires kind) matrix = ⊤
HasRows c _ matrix = length matrix.rows ≡ part_rows c

-- There are few lines, symbols and outputs, and the matrix is as large as the block has room for.
pub record IsMade (c : Counts) (form : Form) (matrix : Matrix) : Type 0 where
  pub few : AreFew c
  pub rows : HasRows c form matrix
  pub cols : matrix.cols ≡ block_side c
  pub nets : length matrix.at ≤ 2 ^ 16

-- ---- parts in their blocks

-- the columns of so many nets
abbrev pub net_cols : ℕ → List ℕ
net_cols nets = map wire_col (range_with_len 0 nets)

-- the part, each net in the column of its number
abbrev pub matrix_of : Counts → PartTables → Matrix
matrix_of c part = part_matrix part (net_cols part.nets) (part_rows c) (block_side c)

abbrev pub FitsBlock : Counts → PartTables → Type 0
FitsBlock c part = FitsPart part (net_cols part.nets) (part_rows c) (block_side c)

-- Each part of a tree has room in its block.
abbrev pub PartsFitBlocks : Type 0
PartsFitBlocks = (tree : TreeTable) (tables : Tables) (v : ℕ) → IsTree tree → IsSpecification tables
    → All (λ s. s < length tables.symbols) (leaves (whole tree)) → v ≤ length tree.nodes → FitsBlock (counts_of tree tables) (part_of tree tables v)
