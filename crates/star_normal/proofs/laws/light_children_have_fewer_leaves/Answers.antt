use Rattle.star_normal.proofs.Weights.{shared_leaves}
use Rattle.star_normal.proofs.laws.light_children_have_fewer_leaves.Goals as goal

pub returns-clause-share : goal.returns-clause-share
returns-clause-share c = shared_leaves
