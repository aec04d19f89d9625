use Rattle.switch_net.proofs.ToldNets.{told_nets_settle}
use Rattle.switch_net.proofs.ternary.told_nets_settle.Goals as goal

-- src/ternary.rt
pub returns : goal.returns
returns c = told_nets_settle
