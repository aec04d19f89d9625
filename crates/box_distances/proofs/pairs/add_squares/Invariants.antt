-- The squares so far.
use Rattle.std.proofs.Common.{pos}
use Rattle.box_distances.proofs.Besides.{SquaresSoFar}
use Rattle.box_distances.proofs.pairs.add_squares.Given as goal

abbrev pub invariant-loop-gap : goal.invariant-loop-gap
invariant-loop-gap l = SquaresSoFar (pos l.gap) l.b l.number l.initial.squares.items l.squares.items
