use Rattle.light_order.proofs.Parents.{one_parent}
use Rattle.light_order.proofs.laws.parents_are_one.Goals as goal

pub returns : goal.returns
returns c = one_parent
