use Rattle.net_text.proofs.OneNetwork.{read_back}
use Rattle.net_text.proofs.laws.written_networks_are_read_back.Goals as goal

pub returns : goal.returns
returns c = read_back
