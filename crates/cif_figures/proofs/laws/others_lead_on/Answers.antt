-- Empty commands and comments.
use Rattle.cif_figures.proofs.ByKind.{empty_leads, comment_leads}
use Rattle.cif_figures.proofs.laws.others_lead_on.Goals as goal

pub returns-clause-empty : goal.returns-clause-empty
returns-clause-empty c = λ s text first end k. empty_leads s k.stands.here.command k.kind_is

pub returns-clause-comment : goal.returns-clause-comment
returns-clause-comment c = λ s text first end k. comment_leads s k.stands.here.command k.kind_is
