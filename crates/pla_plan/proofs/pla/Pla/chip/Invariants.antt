-- The rows so far are called.
use Rattle.pla_plan.specs.Planes.{planes_plan}
use Rattle.pla_plan.proofs.ChipRows.{RowsSoFar}
use Rattle.pla_plan.proofs.pla.Pla.chip.Given as goal

abbrev pub invariant-loop-row : goal.invariant-loop-row
invariant-loop-row l = RowsSoFar (planes_plan l.self) l.kinds.items l.calls.items l.row
