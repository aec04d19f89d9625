-- The pairs so far.
use Rattle.box_distances.proofs.Besides.{FoundSoFar}
use Rattle.box_distances.proofs.pairs.add_beside.Given as goal

abbrev pub invariant-loop-at : goal.invariant-loop-at
invariant-loop-at l = FoundSoFar l.beside.items l.over.items l.at l.initial.found.items l.found.items
