-- The rows of the terms so far, and of those behind them.
use Rattle.std.proofs.Common.{◌≡◌, ◌+◌, ◌++◌, drop}
use Rattle.pla_plan.specs.Planes.{rows_of_terms}
use Rattle.pla_plan.proofs.plane_rows.add_terms.Given as goal

abbrev pub invariant-loop-number : goal.invariant-loop-number
invariant-loop-number l =
    l.rows.items ++ rows_of_terms l.gnd (l.gnd + 1 + l.number) (drop l.number l.terms) ≡ l.fn.rows.items ++ rows_of_terms l.gnd (l.gnd + 1) l.terms
