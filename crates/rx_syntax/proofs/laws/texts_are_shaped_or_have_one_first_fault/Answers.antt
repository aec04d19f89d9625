use Rattle.rx_syntax.proofs.OneAnswer.{one_of_both, not_both, one_fault}
use Rattle.rx_syntax.proofs.laws.texts_are_shaped_or_have_one_first_fault.Goals as goal

pub returns : goal.returns
returns c = record {
  either = one_of_both;
  exclusive = not_both;
  one = λ text code other place elsewhere x y. one_fault text code other place elsewhere x y;
}
