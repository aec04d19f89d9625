use Rattle.switch_net.proofs.LeastLevels.{settled_levels_exist, settled_levels_are_one, clock_levels_exist, clocks_levels_exist, run_levels_exist, run_levels_are_one}
use Rattle.switch_net.proofs.ternary.ternary_runs_exist.Goals as goal

-- src/ternary.rt
pub returns-clause-settled : goal.returns-clause-settled
returns-clause-settled c = settled_levels_exist

pub returns-clause-one_settled : goal.returns-clause-one_settled
returns-clause-one_settled c = settled_levels_are_one

pub returns-clause-clock : goal.returns-clause-clock
returns-clause-clock c = clock_levels_exist

pub returns-clause-clocks : goal.returns-clause-clocks
returns-clause-clocks c = clocks_levels_exist

pub returns-clause-run : goal.returns-clause-run
returns-clause-run c = run_levels_exist

pub returns-clause-one_run : goal.returns-clause-one_run
returns-clause-one_run c = run_levels_are_one
