use Rattle.switch_sim.proofs.ServedParts.{told_all, told_part}
use Rattle.switch_sim.proofs.laws.probes_are_told_in_order.Goals as goal

pub returns-clause-ended : goal.returns-clause-ended
returns-clause-ended c = told_part

pub returns-clause-others : goal.returns-clause-others
returns-clause-others c = told_all
