-- The rows of the sums so far, and of those behind them.
use Rattle.std.proofs.Common.{◌≡◌, ◌+◌, ◌++◌, drop}
use Rattle.pla_plan.specs.Planes.{rows_of_sums}
use Rattle.pla_plan.proofs.plane_rows.right_rows.Given as goal

abbrev pub invariant-loop-number : goal.invariant-loop-number
invariant-loop-number l = l.rows.items ++ rows_of_sums l.planes (l.first + l.number) (drop l.number l.sums) ≡ rows_of_sums l.planes l.first l.sums
