-- No kind so far has these boxes.
use Rattle.std.proofs.Common.{◌≡◌, ℕ, ◌<◌, List, get_or}
use Rattle.geom.specs.Squares.{BoxShape}
use Rattle.tree_chip.proofs.kind_numbers.find_kind.Given as goal

abbrev pub invariant-loop-number : goal.invariant-loop-number
invariant-loop-number l = (k : ℕ) (d : List BoxShape) → k < l.number → get_or l.kinds k d ≡ l.boxes → ⊥
