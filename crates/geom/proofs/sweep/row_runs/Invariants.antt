-- The boxes so far were swept over.
use Rattle.std.proofs.Common.{take, drop}
use Rattle.geom.proofs.Fence.{SweptTo}
use Rattle.geom.proofs.sweep.row_runs.Given as goal

abbrev pub invariant-loop-b : goal.invariant-loop-b
invariant-loop-b l = SweptTo l.fn.layer (take l.b-index l.boxes) (drop l.b-index l.boxes) l.sweep
