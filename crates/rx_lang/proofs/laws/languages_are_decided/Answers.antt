use Rattle.rx_lang.proofs.Words.{language_is_decided}
use Rattle.rx_lang.proofs.laws.languages_are_decided.Goals as goal

pub returns : goal.returns
returns c = language_is_decided
