use Rattle.std.proofs.Common.{◌≤◌, length, arith}
use Rattle.star_normal.specs.Tables.{TreeTable, IsTree}
use Rattle.star_normal.proofs.LeafTotals.{table_nodes}
use Rattle.star_normal.proofs.tree.Tree.nodes.Goals as goal

few_nodes : (table : TreeTable) → IsTree table → length table.nodes ≤ 8191
few_nodes table t = omega (arith, table_nodes table t, t.few_leaves)

pub returns-clause-few : goal.returns-clause-few
returns-clause-few c = rw (← c.self.view_is) (few_nodes _ c.self.invariant)
