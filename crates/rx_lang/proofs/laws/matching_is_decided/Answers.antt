use Rattle.rx_lang.proofs.Words.{matching_is_decided}
use Rattle.rx_lang.proofs.laws.matching_is_decided.Goals as goal

pub returns : goal.returns
returns c = matching_is_decided
