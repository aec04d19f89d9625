use Rattle.switch_net.proofs.SameRuns.{settle_alike, clock_alike, run_alike, show_alike}
use Rattle.switch_net.proofs.same.same_networks_run_alike.Goals as goal

-- src/same.rt
pub returns-clause-settle : goal.returns-clause-settle
returns-clause-settle c = settle_alike

pub returns-clause-clock : goal.returns-clause-clock
returns-clause-clock c = clock_alike

pub returns-clause-run : goal.returns-clause-run
returns-clause-run c = run_alike

pub returns-clause-show : goal.returns-clause-show
returns-clause-show c = show_alike
