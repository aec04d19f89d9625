-- The definition that is open is closed.
use Rattle.std.proofs.Common.{Option, None, sym, subst}
use Rattle.std.proofs.lemmas.Result.{err_from_is_err_and}
use Rattle.geom.specs.declared.layer.Layer.{Layer}
use Rattle.cif_kinds.specs.declared.kinds.CommandKind.TheVariants as kind
use Rattle.cif_figures.specs.Figures.{command_of}
use Rattle.cif_read.specs.States.{state_of, IsRead}
use Rattle.cif_read.proofs.Drawn.{closed}
use Rattle.cif_read.proofs.reader.Reader.close.Goals as goal

pub returns-clause-read : goal.returns-clause-read
returns-clause-read c text first end k place =
    let P : Option Layer → Type 0 =
    λ l. IsRead c.args.self.now place (command_of text first end kind.Closes k)
    (record { builder = c.close.new.self; opening = None; layer = l }) in
    subst P (sym c.outer_layer-self.ensures)
    (closed c.args.self.now c.close.new.self place (command_of text first end kind.Closes k) c.requires.reader
    (c.in_ok-definition_closed.ensures.closed (state_of c.args.self.now) text first end k c.is_open.ensures) c.in_ok-close.ensures)

pub returns-in_err-definition_closed-clause-fault : goal.returns-in_err-definition_closed-clause-fault
returns-in_err-definition_closed-clause-fault c =
    let p = err_from_is_err_and c.from_residual.result c.from_residual.ensures.1 in
    rw (p.1, p.2) (λ text first end k. c.in_err-definition_closed.ensures.fault (state_of c.args.self.now) text first end k c.is_open.ensures)
