-- A part drawn as a gate matrix.
use Rattle.std.specs.Prelude.{◌≡◌, ℕ, ◌-◌, ◌≤◌, List, ◌++◌, length, replicate}
use Rattle.stick_grid.specs.Plans.{Plan}
use Rattle.nor_net.specs.Part.{PartTables}
use Rattle.gate_matrix.specs.Rows.{blank_row}
use Rattle.gate_matrix.specs.Columns.{AreWires}
use Rattle.gate_matrix.specs.Cells.{Matrix, matrix_plan}
use Rattle.gate_matrix.specs.PartRows.{rows_of_part, height_of_part}

-- the matrix of the part in so many rows, of which those to spare stand north
abbrev pub part_matrix : PartTables → List ℕ → ℕ → ℕ → Matrix
part_matrix part at rows cols = record { rows = replicate (rows - height_of_part part) blank_row ++ rows_of_part part; at = at; cols = cols }

abbrev pub part_plan : PartTables → List ℕ → ℕ → ℕ → Plan
part_plan part at rows cols = matrix_plan (part_matrix part at rows cols)

-- There are as many rows as the part needs, and a column of poly for each net, each with another behind it.
pub record FitsPart (part : PartTables) (at : List ℕ) (rows cols : ℕ) : Type 0 where
  pub some_row : 1 ≤ rows
  pub rows_fit : height_of_part part ≤ rows
  pub wires : length at ≡ part.nets
  pub columns : AreWires at cols

-- A part has as many rows as it is drawn in.
abbrev pub PartsFillRows : Type 0
PartsFillRows = (part : PartTables) (at : List ℕ) (rows cols : ℕ) → FitsPart part at rows cols → length (part_matrix part at rows cols).rows ≡ rows
