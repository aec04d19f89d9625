-- The close.
use Rattle.std.proofs.Common.{Some}
use Rattle.geom.specs.CifCommands.{Closes}
use Rattle.cif_figures.proofs.ByKind.{is_close}
use Rattle.cif_figures.proofs.Simple.{close_leads, least_there}
use Rattle.cif_figures.proofs.definitions.definition_closed.Goals as goal

pub returns-in-None-clause-closed : goal.returns-in-None-clause-closed
returns-in-None-clause-closed c = λ s text first end k o.
    close_leads s k.stands.here.command c.closing_code.result (is_close k.stands.here.command k.kind_is) c.in-None.is (c.closing_code.ensures s o)

pub returns-in-Some-clause-fault : goal.returns-in-Some-clause-fault
returns-in-Some-clause-fault c = λ s text first end k o.
    least_there s k.stands.here.command Closes c.closing_code.result (Some c.in-Some.code) (is_close k.stands.here.command k.kind_is) c.in-Some.is
    (c.closing_code.ensures s o)
