-- The pairs so far.
use Rattle.canonical_boxes.proofs.Pairs.{AddsPairs}
use Rattle.canonical_boxes.proofs.touching.add_touches.Given as goal

abbrev pub invariant-loop-upper : goal.invariant-loop-upper
invariant-loop-upper l = AddsPairs l.lower l.first l.upper l.end l.initial.found.items l.found.items
