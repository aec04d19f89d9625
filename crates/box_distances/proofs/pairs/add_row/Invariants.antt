-- The pairs so far.
use Rattle.box_distances.proofs.Rows.{RowSoFar}
use Rattle.box_distances.proofs.pairs.add_row.Given as goal

abbrev pub invariant-loop-other : goal.invariant-loop-other
invariant-loop-other l = RowSoFar l.one l.first l.other l.end l.initial.found.items l.found.items
