-- The nodes so far have their numbers and signatures.
use Rattle.tree_chip.specs.KindNumbers.{AreCellNumbers}
use Rattle.tree_chip.proofs.Signed.{AreSigned}
use Rattle.tree_chip.proofs.kind_numbers.cell_numbers.Given as goal

abbrev pub invariant-loop-node : goal.invariant-loop-node
invariant-loop-node l =
    AreCellNumbers l.tree l.spec l.kinds.items l.numbers.items l.node × AreSigned l.tree l.signatures.items l.node
