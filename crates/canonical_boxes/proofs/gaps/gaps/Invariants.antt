-- The boxes so far are put on.
use Rattle.canonical_boxes.proofs.Gapped.{IsGapped}
use Rattle.canonical_boxes.proofs.gaps.gaps.Given as goal

abbrev pub invariant-loop-number : goal.invariant-loop-number
invariant-loop-number l = IsGapped l.set l.number l.tops l.free.items
