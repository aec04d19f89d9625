-- Both trees of the parts are lower.
use Rattle.geom.proofs.RowTrees.{height}
use Rattle.geom.proofs.row_tree.RowTree.+raise.Given as goal

abbrev pub decreases-raise : goal.decreases-raise
decreases-raise l = height l.self.now
