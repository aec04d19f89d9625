-- The columns of a gate matrix.
use Rattle.std.specs.Prelude.{◌≡◌, ℕ, zero, suc, ◌+◌, ◌<◌, ◌≤◌, ◌==◌, if◌then◌else◌, List, [], ◌∷◌, length, get_or}
use Rattle.gate_matrix.specs.declared.column.Column.{Column}
use Rattle.gate_matrix.specs.declared.column.Column.TheVariants.{Load, Gate, Wire, Device, Free}

-- the column of a net's poly, or of its devices behind it, where the nets from this number on have their poly in these columns
abbrev pub wire_column : List ℕ → ℕ → ℕ → Column
wire_column [] net col = Free
wire_column (a ∷ at) net col = if a == col then Wire net else if a + 1 == col then Device net else wire_column at (suc net) col

-- what the column holds
abbrev pub column_of : List ℕ → ℕ → Column
column_of at zero = Load
column_of at (suc zero) = Gate
column_of at (suc (suc col)) = wire_column at 0 (suc (suc col))

-- The columns ascend by two at least, from the first one on, and each has another behind it.
abbrev pub AreWiresFrom : ℕ → List ℕ → ℕ → Type 0
AreWiresFrom first [] cols = first ≤ cols
AreWiresFrom first (a ∷ at) cols = (first ≤ a) × AreWiresFrom (a + 2) at cols

-- The first two columns are for loads.
abbrev pub AreWires : List ℕ → ℕ → Type 0
AreWires at cols = AreWiresFrom 2 at cols

-- Each net has its poly in one column, behind those of loads, with another behind it.
pub record AreOfNets (at : List ℕ) (cols : ℕ) : Type 0 where
  pub inside : (net : ℕ) → net < length at → (2 ≤ get_or at net 0) × (get_or at net 0 + 2 ≤ cols)
  pub wire : (net : ℕ) → net < length at → column_of at (get_or at net 0) ≡ Wire net
  pub net_of : (net col : ℕ) → column_of at col ≡ Wire net → (net < length at) × (get_or at net 0 ≡ col)

abbrev pub ColumnsAreOfNets : Type 0
ColumnsAreOfNets = (at : List ℕ) (cols : ℕ) → AreWires at cols → AreOfNets at cols
