use Rattle.net_text.proofs.OneNetwork.{one_network}
use Rattle.net_text.proofs.laws.text_is_of_one_network.Goals as goal

pub returns : goal.returns
returns c = one_network
