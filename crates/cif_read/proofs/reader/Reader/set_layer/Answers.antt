-- A layer is set.
use Rattle.std.proofs.lemmas.Result.{err_from_is_err_and}
use Rattle.cif_kinds.specs.declared.kinds.CommandKind.TheVariants as kind
use Rattle.cif_figures.specs.Figures.{command_of}
use Rattle.cif_read.specs.States.{state_of}
use Rattle.cif_read.proofs.Drawn.{layered}
use Rattle.cif_read.proofs.reader.Reader.set_layer.Goals as goal

pub returns-clause-read : goal.returns-clause-read
returns-clause-read c end k place =
    layered c.args.self.now place (command_of c.args.text.now c.args.first end kind.Layer k) c.in_ok-layer_set.field-0 c.requires.reader
    (c.in_ok-layer_set.ensures.layer (state_of c.args.self.now) end k)

pub returns-in_err-layer_set-clause-fault : goal.returns-in_err-layer_set-clause-fault
returns-in_err-layer_set-clause-fault c =
    let p = err_from_is_err_and c.from_residual.result c.from_residual.ensures.1 in
    rw (p.1, p.2) (λ end k. c.in_err-layer_set.ensures.fault (state_of c.args.self.now) end k)
