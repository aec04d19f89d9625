-- Of the numbers so far.
use Rattle.std.proofs.Common.{take}
use Rattle.cif_shapes.specs.Changes.{AreOddOnes}
use Rattle.cif_shapes.proofs.changes.odd_ones.Given as goal

abbrev pub invariant-loop-number : goal.invariant-loop-number
invariant-loop-number l = AreOddOnes (take l.number-index l.sorted) l.odd.items
