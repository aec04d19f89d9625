-- Rows and columns that make a gate matrix.
use Rattle.std.specs.Prelude.{◌≡◌, ℕ, ◌+◌, ◌<◌, Bool, true, false, List, [], length, get_or}
use Rattle.stick_grid.specs.Plans.{IsPlan}
use Rattle.gate_matrix.specs.declared.row.RowKind.{RowKind}
use Rattle.gate_matrix.specs.declared.row.RowKind.TheVariants.{Start, Stop, Vdd, Load, Out, Top, Middle, Bottom}
use Rattle.gate_matrix.specs.Rows.{MatrixRow, blank_row}
use Rattle.gate_matrix.specs.Columns.{AreWires}
use Rattle.gate_matrix.specs.Cells.{Matrix, matrix_plan}

-- the kind is this one
abbrev pub is_vdd : RowKind → Bool
is_vdd Vdd = true
is_vdd _ = false

abbrev pub is_load : RowKind → Bool
is_load Load = true
is_load _ = false

abbrev pub is_out : RowKind → Bool
is_out Out = true
is_out _ = false

abbrev pub is_start : RowKind → Bool
is_start Start = true
is_start _ = false

abbrev pub is_stop : RowKind → Bool
is_stop Stop = true
is_stop _ = false

abbrev pub is_middle : RowKind → Bool
is_middle Middle = true
is_middle _ = false

abbrev pub is_bottom : RowKind → Bool
is_bottom Bottom = true
is_bottom _ = false

-- the nets whose devices the row leads on to the south, or to the north
abbrev pub gated_south : RowKind → List ℕ → List ℕ
gated_south Out gated = gated
gated_south Top gated = gated
gated_south Middle gated = gated
gated_south _ gated = []

abbrev pub gated_north : RowKind → List ℕ → List ℕ
gated_north Middle gated = gated
gated_north Bottom gated = gated
gated_north _ gated = []

-- What leaves the upper row to the south but the poly of the nets enters the lower one from the north: devices and loads.
pub record Follows (upper lower : MatrixRow) : Type 0 where
  pub devices : gated_south upper.kind upper.gated ≡ gated_north lower.kind lower.gated
  pub load : is_vdd upper.kind ≡ is_load lower.kind
  pub out : is_load upper.kind ≡ is_out lower.kind

-- So does the poly of the nets.
pub record LeadsOn (upper lower : MatrixRow) : Type 0 where
  pub follows : Follows upper lower
  pub begun : is_start lower.kind ≡ false
  pub ended : is_stop upper.kind ≡ false

-- The nets have their columns, and each row leads on to the next.
pub record IsMatrix (matrix : Matrix) : Type 0 where
  pub columns : AreWires matrix.at matrix.cols
  pub rows : (row : ℕ) → row + 1 < length matrix.rows → LeadsOn (get_or matrix.rows row blank_row) (get_or matrix.rows (row + 1) blank_row)

-- A gate matrix is a plan: its neighbouring tiles meet.
abbrev pub MatricesArePlans : Type 0
MatricesArePlans = (matrix : Matrix) → IsMatrix matrix → IsPlan (matrix_plan matrix)
