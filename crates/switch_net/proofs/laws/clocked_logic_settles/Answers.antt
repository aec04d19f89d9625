use Rattle.switch_net.proofs.LogicLaws.{settles_as_logic, logic_settles, logic_is_determined, logic_has_values, logic_values_agree}
use Rattle.switch_net.proofs.laws.clocked_logic_settles.Goals as goal

pub returns-clause-as_logic : goal.returns-clause-as_logic
returns-clause-as_logic c = settles_as_logic

pub returns-clause-settles : goal.returns-clause-settles
returns-clause-settles c = logic_settles

pub returns-clause-determined : goal.returns-clause-determined
returns-clause-determined c = logic_is_determined

pub returns-clause-has_values : goal.returns-clause-has_values
returns-clause-has_values c = logic_has_values

pub returns-clause-values_agree : goal.returns-clause-values_agree
returns-clause-values_agree c = logic_values_agree
