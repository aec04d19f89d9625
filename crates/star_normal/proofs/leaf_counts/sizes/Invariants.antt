use Rattle.star_normal.proofs.Sized.{Sized}
use Rattle.star_normal.proofs.leaf_counts.sizes.Given as goal

abbrev pub invariant-loop-node : goal.invariant-loop-node
invariant-loop-node l = Sized l.nodes l.node-index l.sizes.items
