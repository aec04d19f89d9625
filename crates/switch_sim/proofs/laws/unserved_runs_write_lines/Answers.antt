use Rattle.switch_sim.proofs.OneServed.{plain_run, plain_front}
use Rattle.switch_sim.proofs.laws.unserved_runs_write_lines.Goals as goal

pub returns-clause-done : goal.returns-clause-done
returns-clause-done c = plain_run

pub returns-clause-failed : goal.returns-clause-failed
returns-clause-failed c = plain_front
