use Rattle.star_normal.proofs.LeafTotals.{table_leaves, table_nodes}
use Rattle.star_normal.proofs.laws.tables_have_the_leaves_of_their_trees.Goals as goal

pub returns : goal.returns
returns c = record { leaves = table_leaves; nodes = table_nodes }
