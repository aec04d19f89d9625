-- Both halves of the rows are fewer.
use Rattle.std.proofs.Common.{length}
use Rattle.geom.proofs.row_tree.RowTree.+flat.Given as goal

abbrev pub decreases-flat : goal.decreases-flat
decreases-flat l = length l.rows.now
