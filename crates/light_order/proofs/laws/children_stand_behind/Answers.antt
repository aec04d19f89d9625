use Rattle.light_order.proofs.Spread.{light_number, heavy_number, alone_number}
use Rattle.light_order.proofs.laws.children_stand_behind.Goals as goal

pub returns-clause-light : goal.returns-clause-light
returns-clause-light c = λ table t. light_number table t (c.light_children_have_fewer_leaves.ensures.share table t)

pub returns-clause-heavy : goal.returns-clause-heavy
returns-clause-heavy c = λ table t. heavy_number table t (c.light_children_have_fewer_leaves.ensures.share table t)

pub returns-clause-alone : goal.returns-clause-alone
returns-clause-alone c = λ table t. alone_number table t (c.light_children_have_fewer_leaves.ensures.share table t)
