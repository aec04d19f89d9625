use Rattle.net_text.proofs.OneAnswer.{either, exclusive, one_refusal}
use Rattle.net_text.proofs.laws.texts_are_networks_or_refused.Goals as goal

pub returns-clause-either : goal.returns-clause-either
returns-clause-either c = either c.faultless_is_network.ensures

pub returns-clause-exclusive : goal.returns-clause-exclusive
returns-clause-exclusive c = exclusive c.faultless_is_network.ensures

pub returns-clause-one_refusal : goal.returns-clause-one_refusal
returns-clause-one_refusal c = one_refusal
