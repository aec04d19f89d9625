use Rattle.switch_sim.proofs.OneRun.{one_output}
use Rattle.switch_sim.proofs.laws.traces_have_one_output.Goals as goal

pub returns : goal.returns
returns c = one_output c.ternary_runs_exist.ensures.one_run
