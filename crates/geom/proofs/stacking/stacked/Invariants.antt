-- The boxes so far are stacked.
use Rattle.std.proofs.Common.{take, drop}
use Rattle.geom.proofs.Columns.{Stacking}
use Rattle.geom.proofs.stacking.stacked.Given as goal

abbrev pub invariant-loop-b : goal.invariant-loop-b
invariant-loop-b l = Stacking (take l.b-index l.b-items) (drop l.b-index l.b-items) l.stacks.items
