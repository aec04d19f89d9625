-- The kinds of wire blocks so far have their numbers.
use Rattle.tree_chip.specs.KindNumbers.{AreWireNumbers}
use Rattle.tree_chip.proofs.kind_numbers.wire_numbers.Given as goal

abbrev pub invariant-loop-at : goal.invariant-loop-at
invariant-loop-at l = AreWireNumbers l.tree l.spec l.places l.fn.kinds.items l.kinds.items l.numbers.items l.at
