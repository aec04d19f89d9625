use Rattle.nmos_model.proofs.AlikeDrawings.{stand_alike, refused_alike}
use Rattle.nmos_model.proofs.laws.equal_drawings_are_alike.Goals as goal

pub returns-clause-networks : goal.returns-clause-networks
returns-clause-networks g c = λ drawn other. stand_alike (g.D.Drawn.covers drawn) (g.E.Drawn.covers other)

pub returns-clause-refusals : goal.returns-clause-refusals
returns-clause-refusals g c = λ drawn other. refused_alike (g.D.Drawn.covers drawn) (g.E.Drawn.covers other)
