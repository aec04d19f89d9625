-- The boxes so far.
use Rattle.std.proofs.Common.{pos}
use Rattle.box_distances.proofs.Reached.{GrownSoFar}
use Rattle.box_distances.proofs.reach.grown.Given as goal

abbrev pub invariant-loop-number : goal.invariant-loop-number
invariant-loop-number l = GrownSoFar (pos l.back) (pos l.ahead) l.boxes l.number l.grown.items
