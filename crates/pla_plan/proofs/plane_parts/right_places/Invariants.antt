-- The columns so far.
use Rattle.std.proofs.Common.{◌≡◌, ◌+◌, ◌*◌, ◌∷◌, map}
use Rattle.std.specs.List.{range_with_len}
use Rattle.pla_plan.proofs.plane_parts.right_places.Given as goal

abbrev pub invariant-loop-term : goal.invariant-loop-term
invariant-loop-term l = l.places.items ≡ 2 ∷ map (λ term. 6 + 5 * term) (range_with_len 0 l.term)
