use Rattle.nmos_model.proofs.Judged.{never_both, refused_once}
use Rattle.nmos_model.proofs.OneNetwork.{one_network}
use Rattle.nmos_model.proofs.laws.drawings_are_networks_or_refused.Goals as goal

pub returns-clause-network : goal.returns-clause-network
returns-clause-network g c = λ drawn labels one other named s t. one_network (g.D.Drawn.covers drawn) labels named one other s t

pub returns-clause-apart : goal.returns-clause-apart
returns-clause-apart g c = λ drawn. never_both (g.D.Drawn.covers drawn)

pub returns-clause-once : goal.returns-clause-once
returns-clause-once g c = λ drawn. refused_once (g.D.Drawn.covers drawn)
