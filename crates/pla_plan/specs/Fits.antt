-- When terms, sums and a part make an array.
use Rattle.std.specs.Prelude.{◌≡◌, ◌≢◌, ℕ, ◌+◌, ◌-◌, ◌*◌, ◌^◌, ◌<◌, ◌≤◌, length, get_or, [], All, AllPairs}
use Rattle.stick_grid.specs.Plans.{IsPlan}
use Rattle.nor_net.specs.Netlist.{NorGate}
use Rattle.nor_net.specs.Part.{IsPart}
use Rattle.gate_matrix.specs.Drawn.{FitsPart}
use Rattle.pla_plan.specs.Planes.{PlaneTables, plane_rows, right_from, right_end, planes_plan}

-- The gate's inputs, which differ, are nets from the first of these on, up to and not with the second.
pub record IsPlaneGate (from to : ℕ) (gate : NorGate) : Type 0 where
  pub inputs : All (λ net. (from ≤ net) × (net < to)) gate.inputs
  pub distinct : AllPairs (λ a b. a ≢ b) gate.inputs

-- A gate without inputs and output, for numbers beyond a list.
abbrev pub no_gate : NorGate
no_gate = record { out = 0; inputs = [] }

-- The part fits below the planes, with a column at least behind them. The left nets have every second column, and the output of each
-- sum has the third of its eight columns. There are at most 2^20 rows and columns.
pub record IsArray (planes : PlaneTables) : Type 0 where
  pub few_rows : planes.rows ≤ 2 ^ 20
  pub few_cols : planes.cols ≤ 2 ^ 20
  pub rows_fit : plane_rows planes + 1 ≤ planes.rows
  pub cols_fit : right_end planes + 1 ≤ planes.cols
  pub part : IsPart planes.part
  pub part_fits : FitsPart planes.part planes.at (planes.rows - (plane_rows planes + 1)) planes.cols
  pub high_supply : planes.part.vdd ≡ 0
  pub ground : planes.part.gnd ≡ planes.left + 1
  pub left_nets : planes.left + 2 ≤ planes.part.nets
  pub left_columns : (net : ℕ) → net < planes.left + 2 → get_or planes.at net 0 ≡ 2 + 2 * net
  pub other_columns : (net : ℕ) → planes.left + 2 ≤ net → net < planes.part.nets → right_from planes ≤ get_or planes.at net 0
  pub some_sum : 1 ≤ length planes.sums
  pub terms : All (IsPlaneGate 1 (planes.left + 1)) planes.terms
  pub term_nets : (k : ℕ) → k < length planes.terms → (get_or planes.terms k no_gate).out ≡ planes.part.nets + k
  pub sums : All (IsPlaneGate planes.part.nets (planes.part.nets + length planes.terms)) planes.sums
  pub sum_nets : All (λ sum. sum.out < planes.part.nets) planes.sums
  pub sum_columns : (s : ℕ) → s < length planes.sums → get_or planes.at (get_or planes.sums s no_gate).out 0 ≡ right_from planes + 8 * s + 2

-- The tiles of an array are a plan: neighbours meet, also at the seams of its parts.
abbrev pub PlanesArePlans : Type 0
PlanesArePlans = (planes : PlaneTables) → IsArray planes → IsPlan (planes_plan planes)
