-- The plan of tiles of a tree's layout, its labels, and the network that they stand for.
use Rattle.std.specs.Prelude.{ℕ, ◌+◌, ◌*◌, ◌/◌, ◌%◌, ◌<◌, ◌==◌, List, ◌∷◌, ◌++◌, length, map, All, IsPermutation}
use Rattle.rx_text.specs.declared.pad_name.Role.TheVariants.{Vdd, Gnd, Phi1, Phi2, Reset as ResetRole, Input, Output}
use Rattle.geom.specs.declared.layer.Layer.TheVariants.{Poly}
use Rattle.geom.specs.declared.chip.Label.{Label}
use Rattle.geom.specs.Conduction.{Spot}
use Rattle.rx_lang.specs.Tables.{Tables, IsSpecification}
use Rattle.star_normal.specs.Tables.{TreeTable, IsTree, whole}
use Rattle.star_normal.specs.Trees.{leaves}
use Rattle.micro_tiles.specs.declared.side.Side.TheVariants.{South}
use Rattle.switch_net.specs.declared.network.Pad.{Pad}
use Rattle.stick_grid.specs.Plans.{Plan, IsPlan, Covers}
use Rattle.stick_grid.specs.Depicted.{border_spot}
use Rattle.stick_grid.specs.LabelledModules.{StandsForSame}
use Rattle.nor_net.specs.SwitchForm.{switch_form}
use Rattle.block_grid.specs.Lines.{row_of, col_of}
use Rattle.block_grid.specs.Sheets.{Sheet, IsSheet, block_at}
use Rattle.light_order.specs.Order.{frame, light_first}
use Rattle.light_order.specs.Crossings.{tree_edges}
use Rattle.channel_route.specs.Drawing.{ends_of, name_of, place_in}
use Rattle.tree_layout.specs.Numbered.{ends_in_tree}
use Rattle.cell_network.specs.declared.numbering.Counts.{Counts}
use Rattle.cell_network.specs.Parts.{counts_of, inn_wire, frame_numbers}
use Rattle.cell_network.specs.Whole.{plain, pads_from, cells_of}
use Rattle.node_cell.specs.Blocks.{block_side, wire_col, vdd_wire}
use Rattle.node_cell.specs.BlockTiles.{block_tile}

-- The nodes of the tree and the frame stand on the sheet, each once, and no others; each edge of the tree is drawn once, in its role, and no
-- other edge is.
pub record IsSheetOf (tree : TreeTable) (sheet : Sheet) : Type 0 where
  pub is_sheet : IsSheet sheet
  pub nodes : IsPermutation (map name_of sheet.nodes) (map (λ v. (v, v == frame tree)) (light_first tree))
  pub edges : IsPermutation (map ends_in_tree (tree_edges tree)) (map ends_of sheet.edges)

-- the tile in a row and column of the whole layout: one of the block that stands there
abbrev pub tree_tile : Sheet → TreeTable → Tables → ℕ → ℕ → ℕ
tree_tile sheet tree tables row col =
    let side = block_side (counts_of tree tables) in
    block_tile tree tables (block_at sheet (row / side) (col / side)) (row % side) (col % side)

abbrev pub tree_plan : Sheet → TreeTable → Tables → Plan
tree_plan sheet tree tables =
    let side = block_side (counts_of tree tables) in
    record { rows = side * sheet.rows; cols = side * sheet.cols; tile = tree_tile sheet tree tables }

-- the pads, on nets of the frame's part: the supplies, the clocks, the reset, the lines, the outputs
abbrev pub frame_pads : Counts → Tables → List Pad
frame_pads c tables =
    plain Vdd (vdd_wire c) ∷ plain Gnd (inn_wire c + 6) ∷ plain Phi1 (inn_wire c + 3) ∷ plain Phi2 (inn_wire c + 4) ∷ plain ResetRole (inn_wire c + 2)
    ∷ (pads_from Input (frame_numbers c).lines tables.lines ++ pads_from Output (frame_numbers c).outputs tables.outputs)

-- a spot of the poly that begins in the first row of the frame's block, in the column of a net of its part
abbrev pub pad_spot : Sheet → TreeTable → Tables → ℕ → Spot
pad_spot sheet tree tables net =
    let side = block_side (counts_of tree tables) in
    let place = place_in sheet (frame tree) in
    border_spot (tree_plan sheet tree tables) (side * row_of place) (side * col_of place + wire_col net) South Poly

-- the pad's name there
abbrev pub pad_label : Sheet → TreeTable → Tables → Pad → Label
pad_label sheet tree tables pad = record {
  pad = pad.name;
  layer = Poly;
  x = (pad_spot sheet tree tables pad.net.0).x;
  y = (pad_spot sheet tree tables pad.net.0).y;
}

abbrev pub tree_labels : Sheet → TreeTable → Tables → List Label
tree_labels sheet tree tables = map (pad_label sheet tree tables) (frame_pads (counts_of tree tables) tables)

-- The tiles of a tree's layout are a plan: neighbours meet, inside blocks and at their seams.
abbrev pub TreesArePlans : Type 0
TreesArePlans = (sheet : Sheet) (tree : TreeTable) (tables : Tables) → IsTree tree → IsSpecification tables
    → All (λ s. s < length tables.symbols) (leaves (whole tree)) → IsSheetOf tree sheet → IsPlan (tree_plan sheet tree tables)

-- The layout of a tree under a specification's symbols stands, with these labels, for a network that is the same as that of the cells.
abbrev pub TreesDrawCells : Type 0
TreesDrawCells = (sheet : Sheet) (tree : TreeTable) (tables : Tables) → IsTree tree → IsSpecification tables
    → All (λ s. s < length tables.symbols) (leaves (whole tree)) → IsSheetOf tree sheet
    → StandsForSame (Covers (tree_plan sheet tree tables)) (tree_labels sheet tree tables) (switch_form (cells_of tree tables))
