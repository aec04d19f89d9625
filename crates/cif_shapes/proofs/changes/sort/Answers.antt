-- The sort puts the numbers in order.
use Rattle.cif_shapes.proofs.Heights.{sorted_numbers}
use Rattle.cif_shapes.proofs.changes.sort.Goals as goal

pub returns-clause-sorted : goal.returns-clause-sorted
returns-clause-sorted c = sorted_numbers _ c.in_ok-sort.ensures.sorted
