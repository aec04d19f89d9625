-- The two planes of a programmable logic array over the part that feeds them, as one plan of tiles.
use Rattle.std.specs.Prelude.{ℕ, ◌+◌, ◌-◌, ◌*◌, ◌%◌, ◌==◌, ◌&&◌, ◌||◌, Bool, true, if◌then◌else◌, List, [], ◌∷◌, ◌++◌, length, map, nat_lt}
use Rattle.std.specs.List.{range_with_len}
use Rattle.micro_tiles.specs.Basics.{number_named}
use Rattle.micro_tiles.specs.declared.basic.Basic.{Basic}
use Rattle.micro_tiles.specs.declared.basic.Basic.TheVariants as tiles
use Rattle.micro_tiles.specs.Table.{transpose_of}
use Rattle.stick_grid.specs.Plans.{Plan}
use Rattle.nor_net.specs.Netlist.{NorGate}
use Rattle.nor_net.specs.Part.{PartTables}
use Rattle.gate_matrix.specs.declared.row.RowKind.{RowKind}
use Rattle.gate_matrix.specs.declared.row.RowKind.TheVariants.{Start, Through, Stop, Vdd, Load, Out, Top, Middle, Bottom}
use Rattle.gate_matrix.specs.declared.column.Column.{Column}
use Rattle.gate_matrix.specs.declared.column.Column.TheVariants.{Wire}
use Rattle.gate_matrix.specs.Columns.{column_of}
use Rattle.gate_matrix.specs.Rows.{MatrixRow, closed_row, blank_row}
use Rattle.gate_matrix.specs.Cells.{Matrix, matrix_tile}
use Rattle.gate_matrix.specs.Drawn.{part_matrix}

-- A programmable logic array: terms, which are NORs of left nets; sums, which are NORs of terms; and the part below the planes that
-- feeds them. Net 0 of the part is the high supply, nets 1 to `left` are the left nets, and the net behind them is the ground; the net of
-- term k is the k-th behind those of the part. Net i of the part has its poly in column `at` i.
pub record PlaneTables : Type 0 where
  pub left : ℕ
  pub terms : List NorGate
  pub sums : List NorGate
  pub part : PartTables
  pub at : List ℕ
  pub rows : ℕ
  pub cols : ℕ

-- the first column of the right plane, and the first behind it
abbrev pub right_from : PlaneTables → ℕ
right_from planes = 2 * planes.left + 7

abbrev pub right_end : PlaneTables → ℕ
right_end planes = right_from planes + 8 * length planes.sums

-- how many rows the planes have
abbrev pub plane_rows : PlaneTables → ℕ
plane_rows planes = 5 * length planes.terms + 7

-- metal of a net that goes on to the east in poly
abbrev pub onward_row : RowKind → ℕ → List ℕ → MatrixRow
onward_row kind metal gated = record { kind = kind; metal = metal; gated = gated; onward = true }

-- a gate with its load, whose output has no column of poly in the matrix and goes on to the east
abbrev pub open_gate_rows : ℕ → ℕ → List ℕ → List MatrixRow
open_gate_rows gnd out gated =
    closed_row Vdd 0 [] ∷ closed_row Load 0 [] ∷ onward_row Out out gated ∷ closed_row Middle 0 gated ∷ closed_row Bottom gnd gated ∷ []

-- five rows for each term; their outputs are the nets from this one on
abbrev pub rows_of_terms : ℕ → ℕ → List NorGate → List MatrixRow
rows_of_terms gnd out [] = []
rows_of_terms gnd out (term ∷ terms) = open_gate_rows gnd out term.inputs ++ rows_of_terms gnd (out + 1) terms

-- The left plane: the metal of the high supply, the terms, and the metal of the ground. Its nets are the high supply, the left nets,
-- the ground, and the outputs of the terms.
abbrev pub left_rows : PlaneTables → List MatrixRow
left_rows planes =
    closed_row Start 0 [] ∷ blank_row ∷ onward_row Top 0 [] ∷ blank_row
    ∷ (rows_of_terms (planes.left + 1) (planes.left + 2) planes.terms ++ onward_row Top (planes.left + 1) [] ∷ blank_row ∷ blank_row ∷ [])

abbrev pub left_places : ℕ → List ℕ
left_places nets = map (λ net. 2 + 2 * net) (range_with_len 0 nets)

abbrev pub left_plane : PlaneTables → Matrix
left_plane planes = record { rows = left_rows planes; at = left_places (planes.left + 2); cols = right_from planes }

-- eight rows for a sum, of which the very last ends the nets: the number of the first term's net is taken to 1
abbrev pub rows_of_sum : PlaneTables → ℕ → NorGate → Bool → List MatrixRow
rows_of_sum planes out sum last =
    open_gate_rows (length planes.terms + 1) out (map (λ net. net - planes.part.nets + 1) sum.inputs)
    ++ blank_row ∷ blank_row ∷ closed_row (if last then Stop else Through) 0 [] ∷ []

-- the rows of sums, whose outputs are the nets from this one on
abbrev pub rows_of_sums : PlaneTables → ℕ → List NorGate → List MatrixRow
rows_of_sums planes out [] = []
rows_of_sums planes out (sum ∷ sums) = rows_of_sum planes out sum (length sums == 0) ++ rows_of_sums planes (out + 1) sums

abbrev pub right_places : ℕ → List ℕ
right_places terms = 2 ∷ (map (λ term. 6 + 5 * term) (range_with_len 0 terms) ++ (4 + 5 * terms) ∷ [])

-- The right plane before it is laid on its side. Its nets are the high supply, the terms, the ground, and the outputs of the sums.
abbrev pub right_plane : PlaneTables → Matrix
right_plane planes = record {
  rows = rows_of_sums planes (length planes.terms + 2) planes.sums;
  at = right_places (length planes.terms);
  cols = plane_rows planes;
}

-- the third of each eight columns of the right plane, in which a sum leaves to the south
abbrev pub is_sum_column : PlaneTables → ℕ → Bool
is_sum_column planes col = nat_lt col (right_end planes) && (col - right_from planes) % 8 == 2

-- the poly of a net between the planes and the part: that of a net that comes from above goes on, that of another begins
abbrev pub cap_in : Column → Bool → Basic
cap_in (Wire net) fed = if fed then tiles.PolyNorthSouth else tiles.PolySouth
cap_in _ fed = tiles.Empty

-- the row between the planes and the part
abbrev pub cap : PlaneTables → ℕ → Basic
cap planes col = cap_in (column_of planes.at col) (nat_lt col (right_from planes) || is_sum_column planes col)

-- the part below that row
abbrev pub lower_matrix : PlaneTables → Matrix
lower_matrix planes = part_matrix planes.part planes.at (planes.rows - (plane_rows planes + 1)) planes.cols

-- the tile in a row of the planes
abbrev pub plane_tile : PlaneTables → ℕ → ℕ → ℕ
plane_tile planes row col =
    if nat_lt col (right_from planes) then matrix_tile (left_plane planes) row col
    else if nat_lt col (right_end planes) then transpose_of (matrix_tile (right_plane planes) (col - right_from planes) row)
    else number_named tiles.Empty

-- the tile in a row and column
abbrev pub planes_tile : PlaneTables → ℕ → ℕ → ℕ
planes_tile planes row col =
    if nat_lt row (plane_rows planes) then plane_tile planes row col
    else if row == plane_rows planes then number_named (cap planes col)
    else matrix_tile (lower_matrix planes) (row - (plane_rows planes + 1)) col

abbrev pub planes_plan : PlaneTables → Plan
planes_plan planes = record { rows = planes.rows; cols = planes.cols; tile = planes_tile planes }
