-- Rows of a gate matrix, and the groups of rows of gates, loads and transfers.
use Rattle.std.specs.Prelude.{ℕ, Bool, true, false, List, [], ◌∷◌, ◌++◌}
use Rattle.gate_matrix.specs.declared.row.RowKind.{RowKind}
use Rattle.gate_matrix.specs.declared.row.RowKind.TheVariants.{Through, Vdd, Load, Out, Top, Middle, Bottom}

-- the kind, the net of the metal, where the kind has metal, the nets that gate the devices of the row's group, and whether the
-- metal goes on to the east in poly
pub record MatrixRow : Type 0 where
  pub kind : RowKind
  pub metal : ℕ
  pub gated : List ℕ
  pub onward : Bool

-- a row that goes on nowhere
abbrev pub closed_row : RowKind → ℕ → List ℕ → MatrixRow
closed_row kind metal gated = record { kind = kind; metal = metal; gated = gated; onward = false }

-- a row that only carries the poly of the nets on
abbrev pub blank_row : MatrixRow
blank_row = closed_row Through 0 []

-- a load between the high supply and the net, and the tops of devices
abbrev pub load_rows : ℕ → ℕ → List ℕ → List MatrixRow
load_rows vdd net gated = closed_row Vdd vdd [] ∷ closed_row Load 0 [] ∷ closed_row Out net gated ∷ []

-- devices between two nets of metal
abbrev pub device_rows : ℕ → List ℕ → ℕ → List MatrixRow
device_rows top gated bottom = closed_row Top top gated ∷ closed_row Middle 0 gated ∷ closed_row Bottom bottom gated ∷ []

-- a gate with its load
abbrev pub gate_rows : ℕ → ℕ → ℕ → List ℕ → List MatrixRow
gate_rows vdd gnd out inputs = load_rows vdd out inputs ++ closed_row Middle 0 inputs ∷ closed_row Bottom gnd inputs ∷ []

-- rows of this kind have metal
abbrev pub has_metal : RowKind → Bool
has_metal Vdd = true
has_metal Out = true
has_metal Top = true
has_metal Bottom = true
has_metal _ = false
