-- The rectangles so far.
use Rattle.canonical_boxes.proofs.Held.{AreHeldBelow}
use Rattle.canonical_boxes.proofs.holding.holds.Given as goal

abbrev pub invariant-loop-number : goal.invariant-loop-number
invariant-loop-number l = AreHeldBelow l.set l.areas l.number l.held.items
