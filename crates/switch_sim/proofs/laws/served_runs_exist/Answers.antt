use Rattle.switch_sim.proofs.OneServed.{served_run}
use Rattle.switch_sim.proofs.laws.served_runs_exist.Goals as goal

pub returns : goal.returns
returns c = served_run c.ternary_runs_exist.ensures.run
