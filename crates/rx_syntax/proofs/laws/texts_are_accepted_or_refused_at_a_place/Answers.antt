use Rattle.rx_syntax.proofs.RefusedAtPlaces.{accepted_or_refused_at, not_accepted_and_refused_at, one_refusal_at}
use Rattle.rx_syntax.proofs.laws.texts_are_accepted_or_refused_at_a_place.Goals as goal

pub returns : goal.returns
returns c = record { either = accepted_or_refused_at; exclusive = not_accepted_and_refused_at; one_refusal = one_refusal_at }
