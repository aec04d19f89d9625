-- The boxes so far are the same.
use Rattle.std.proofs.Common.{◌≡◌, ℕ, ◌<◌, get_or}
use Rattle.geom.specs.Squares.{BoxShape}
use Rattle.tree_chip.proofs.kind_numbers.same_boxes.Given as goal

abbrev pub invariant-loop-at : goal.invariant-loop-at
invariant-loop-at l = (k : ℕ) (d : BoxShape) → k < l.at → get_or l.one k d ≡ get_or l.other k d
