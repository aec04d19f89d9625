use Rattle.light_order.proofs.Bounds.{bound, light_bound}
use Rattle.light_order.proofs.laws.few_edges_cross.Goals as goal

pub returns-clause-light : goal.returns-clause-light
returns-clause-light c = λ table t. light_bound table t (c.light_children_have_fewer_leaves.ensures.share table t)

pub returns-clause-crossings : goal.returns-clause-crossings
returns-clause-crossings c = λ table t j from to place some few. bound table t (c.light_children_have_fewer_leaves.ensures.share table t) from to place j some few
