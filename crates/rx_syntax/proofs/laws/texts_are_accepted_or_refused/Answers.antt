use Rattle.rx_syntax.proofs.OneSpecification.{accepted_or_refused, not_accepted_and_refused, one_specification, one_refusal}
use Rattle.rx_syntax.proofs.laws.texts_are_accepted_or_refused.Goals as goal

pub returns : goal.returns
returns c = record {
  either = accepted_or_refused;
  exclusive = not_accepted_and_refused;
  one_specification = one_specification;
  one_refusal = λ text limit code other place elsewhere x y. one_refusal text limit code other place elsewhere x y;
}
