use Rattle.rx_syntax.proofs.FewSymbols.{few_accepted}
use Rattle.rx_syntax.proofs.laws.accepted_specifications_have_few_symbols.Goals as goal

pub returns : goal.returns
returns c = few_accepted
