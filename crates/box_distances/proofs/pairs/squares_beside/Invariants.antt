-- The squares of the boxes so far.
use Rattle.std.proofs.Common.{pos}
use Rattle.box_distances.proofs.Besides.{BesideSoFar}
use Rattle.box_distances.proofs.pairs.squares_beside.Given as goal

abbrev pub invariant-loop-number : goal.invariant-loop-number
invariant-loop-number l = BesideSoFar (pos l.reach) l.boxes l.number l.squares.items
