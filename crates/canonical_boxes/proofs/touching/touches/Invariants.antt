-- The touches of the lower boxes so far.
use Rattle.canonical_boxes.proofs.Pairs.{AreTouchesBelow}
use Rattle.canonical_boxes.proofs.touching.touches.Given as goal

abbrev pub invariant-loop-lower : goal.invariant-loop-lower
invariant-loop-lower l = AreTouchesBelow l.set l.lower l.found.items
