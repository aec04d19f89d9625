-- Each tree on the way is lower.
use Rattle.geom.proofs.RowTrees.{height}
use Rattle.geom.proofs.row_tree.RowTree.+leaving_above.Given as goal

abbrev pub decreases-leaving_above : goal.decreases-leaving_above
decreases-leaving_above l = height l.self.now
