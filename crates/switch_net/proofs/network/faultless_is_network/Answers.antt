use Rattle.switch_net.proofs.Faultless.{faultless}
use Rattle.switch_net.proofs.network.faultless_is_network.Goals as goal

pub returns : goal.returns
returns c = faultless
