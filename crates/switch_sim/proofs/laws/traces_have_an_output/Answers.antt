use Rattle.switch_sim.proofs.OneRun.{some_output}
use Rattle.switch_sim.proofs.laws.traces_have_an_output.Goals as goal

pub returns : goal.returns
returns c = some_output c.ternary_runs_exist.ensures.run
