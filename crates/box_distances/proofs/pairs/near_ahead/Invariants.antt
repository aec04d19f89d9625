-- The pairs of the boxes so far.
use Rattle.std.proofs.Common.{pos}
use Rattle.box_distances.proofs.Rows.{AboveSoFar}
use Rattle.box_distances.proofs.pairs.near_ahead.Given as goal

abbrev pub invariant-loop-number : goal.invariant-loop-number
invariant-loop-number l = AboveSoFar (pos l.reach) l.one l.other l.number l.found.items
