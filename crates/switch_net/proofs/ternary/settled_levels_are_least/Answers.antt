use Rattle.switch_net.proofs.LeastLevels.{updates_are_monotone, updates_only_tell, updates_have_an_end, settled_levels_are_least, any_order_settles, settled_levels_alike}
use Rattle.switch_net.proofs.ternary.settled_levels_are_least.Goals as goal

-- src/ternary.rt
pub returns-clause-monotone : goal.returns-clause-monotone
returns-clause-monotone c = updates_are_monotone

pub returns-clause-only_tell : goal.returns-clause-only_tell
returns-clause-only_tell c = updates_only_tell

pub returns-clause-end : goal.returns-clause-end
returns-clause-end c = updates_have_an_end

pub returns-clause-least : goal.returns-clause-least
returns-clause-least c = settled_levels_are_least

pub returns-clause-any_order : goal.returns-clause-any_order
returns-clause-any_order c = any_order_settles

pub returns-clause-alike : goal.returns-clause-alike
returns-clause-alike c = settled_levels_alike
