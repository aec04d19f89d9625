-- The pairs of the rows so far.
use Rattle.std.proofs.Common.{pos}
use Rattle.box_distances.proofs.Rows.{GapsSoFar}
use Rattle.box_distances.proofs.pairs.add_above.Given as goal

abbrev pub invariant-loop-gap : goal.invariant-loop-gap
invariant-loop-gap l = GapsSoFar (pos l.reach) (pos l.gap) l.b l.others l.one l.initial.found.items l.found.items
