-- The tile that a row of a gate matrix has in a column.
use Rattle.std.specs.Prelude.{ℕ, ◌+◌, ◌==◌, Bool, true, false, if◌then◌else◌, List, length, get_or, map}
use Rattle.std.specs.List.{list_any, range_with_len}
use Rattle.micro_tiles.specs.declared.basic.Basic.{Basic}
use Rattle.micro_tiles.specs.declared.basic.Basic.TheVariants as tiles
use Rattle.micro_tiles.specs.Basics.{number_named}
use Rattle.stick_grid.specs.Plans.{Plan}
use Rattle.gate_matrix.specs.declared.row.RowKind.{RowKind}
use Rattle.gate_matrix.specs.declared.row.RowKind.TheVariants as kinds
use Rattle.gate_matrix.specs.declared.column.Column.{Column}
use Rattle.gate_matrix.specs.declared.column.Column.TheVariants as columns
use Rattle.gate_matrix.specs.Columns.{column_of}
use Rattle.gate_matrix.specs.Rows.{MatrixRow, blank_row}

-- the tile in the column of loads
abbrev pub load_cell : RowKind → Basic
load_cell kinds.Vdd = tiles.EastToDiffusionSouth
load_cell kinds.Load = tiles.Load
load_cell kinds.Out = tiles.EastToDiffusionNorth
load_cell kinds.Top = tiles.MetalEast
load_cell kinds.Bottom = tiles.MetalEast
load_cell _ = tiles.Empty

-- the tile in the column of the gates of loads
abbrev pub gate_cell : RowKind → Basic
gate_cell kinds.Load = tiles.PolySouthWest
gate_cell kinds.Out = tiles.EastWestToPolyNorth
gate_cell kinds.Vdd = tiles.MetalEastWest
gate_cell kinds.Top = tiles.MetalEastWest
gate_cell kinds.Bottom = tiles.MetalEastWest
gate_cell _ = tiles.Empty

-- metal over the poly of a net, which it meets where it is of this net
abbrev pub metal_over : Bool → Basic
metal_over meets = if meets then tiles.EastWestToPolyNorthSouth else tiles.Crossing

-- the tile in the column of a net's poly
abbrev pub wire_cell : RowKind → Bool → Bool → Basic
wire_cell kinds.Start meets gated = tiles.PolySouth
wire_cell kinds.Stop meets gated = tiles.PolyNorth
wire_cell kinds.Through meets gated = tiles.PolyNorthSouth
wire_cell kinds.Load meets gated = tiles.PolyNorthSouth
wire_cell kinds.Middle meets gated = if gated then tiles.PolyNorthEastSouth else tiles.PolyNorthSouth
wire_cell kinds.Vdd meets gated = metal_over meets
wire_cell kinds.Out meets gated = metal_over meets
wire_cell kinds.Top meets gated = metal_over meets
wire_cell kinds.Bottom meets gated = metal_over meets

-- the metal of a row, which ends in the last column, or goes on to the east in poly
abbrev pub metal_cell : Bool → Bool → Basic
metal_cell false onward = tiles.MetalEastWest
metal_cell true false = tiles.MetalWest
metal_cell true true = tiles.WestToPolyEast

-- the metal of a row over devices to the south, or to the north
abbrev pub metal_above : Bool → Basic
metal_above last = if last then tiles.WestToDiffusionSouth else tiles.EastWestToDiffusionSouth

abbrev pub metal_below : Bool → Basic
metal_below last = if last then tiles.WestToDiffusionNorth else tiles.EastWestToDiffusionNorth

-- the tile in the column behind a net's poly, which has a device where the net gates one
abbrev pub device_cell : RowKind → Bool → Bool → Bool → Basic
device_cell kinds.Out true last onward = metal_above last
device_cell kinds.Top true last onward = metal_above last
device_cell kinds.Bottom true last onward = metal_below last
device_cell kinds.Middle true last onward = tiles.Pass
device_cell kinds.Vdd gated last onward = metal_cell last onward
device_cell kinds.Out false last onward = metal_cell last onward
device_cell kinds.Top false last onward = metal_cell last onward
device_cell kinds.Bottom false last onward = metal_cell last onward
device_cell _ gated last onward = tiles.Empty

-- the net gates a device of the group
abbrev pub is_gated : List ℕ → ℕ → Bool
is_gated gated net = list_any (λ one. one == net) gated

-- the tile of the row in the column, which is the last or not
abbrev pub cell : MatrixRow → Column → Bool → Basic
cell row columns.Load last = load_cell row.kind
cell row columns.Gate last = gate_cell row.kind
cell row (columns.Wire net) last = wire_cell row.kind (row.metal == net) (is_gated row.gated net)
cell row (columns.Device net) last = device_cell row.kind (is_gated row.gated net) last row.onward
cell row columns.Free last = device_cell row.kind false last row.onward

-- the tiles of a row in these columns
abbrev pub row_tiles : MatrixRow → List Column → List ℕ
row_tiles row list = map (λ col. number_named (cell row (get_or list col columns.Load) (col + 1 == length list))) (range_with_len 0 (length list))

-- rows, the columns of the nets' poly, and how many columns there are
pub record Matrix : Type 0 where
  pub rows : List MatrixRow
  pub at : List ℕ
  pub cols : ℕ

-- the tile in a row and column
abbrev pub matrix_tile : Matrix → ℕ → ℕ → ℕ
matrix_tile matrix row col = number_named (cell (get_or matrix.rows row blank_row) (column_of matrix.at col) (col + 1 == matrix.cols))

abbrev pub matrix_plan : Matrix → Plan
matrix_plan matrix = record { rows = length matrix.rows; cols = matrix.cols; tile = matrix_tile matrix }
