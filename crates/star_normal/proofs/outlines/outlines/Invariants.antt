use Rattle.star_normal.specs.Outlines.{AreOutlines, copied_trees}
use Rattle.star_normal.proofs.outlines.outlines.Given as goal

abbrev pub invariant-loop-node : goal.invariant-loop-node
invariant-loop-node l = AreOutlines (copied_trees l.nodes) l.node-index l.outlines.items
