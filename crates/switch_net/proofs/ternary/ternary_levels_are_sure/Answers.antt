use Rattle.switch_net.proofs.SureLevels.{settled_levels_are_sure, run_levels_are_sure}
use Rattle.switch_net.proofs.ternary.ternary_levels_are_sure.Goals as goal

-- src/ternary.rt
pub returns-clause-settled : goal.returns-clause-settled
returns-clause-settled c = settled_levels_are_sure

pub returns-clause-runs : goal.returns-clause-runs
returns-clause-runs c = run_levels_are_sure
