use Rattle.switch_sim.proofs.OneServed.{one_served}
use Rattle.switch_sim.proofs.laws.served_runs_are_one.Goals as goal

pub returns : goal.returns
returns c = one_served c.ternary_runs_exist.ensures.one_run
