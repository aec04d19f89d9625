use Rattle.rx_syntax.proofs.ReadBack.{read_back}
use Rattle.rx_syntax.proofs.laws.printed_texts_are_read_back.Goals as goal

pub returns : goal.returns
returns c = read_back
