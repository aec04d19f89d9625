-- A wire is drawn.
use Rattle.std.proofs.lemmas.Result.{err_from_is_err_and}
use Rattle.cif_kinds.specs.declared.kinds.CommandKind.TheVariants as kind
use Rattle.cif_figures.specs.Figures.{command_of}
use Rattle.cif_read.specs.States.{state_of}
use Rattle.cif_read.proofs.States.{draws_in}
use Rattle.cif_read.proofs.Drawn.{drawn}
use Rattle.cif_read.proofs.reader.Reader.draw_wire.Goals as goal

pub returns-clause-read : goal.returns-clause-read
returns-clause-read c end k =
    drawn c.args.self.now c.add_boxes.new.self c.args.place (command_of c.args.text.now c.args.first end kind.Wire k) c.in_ok-boxes.boxes.items 0
    c.requires.reader
    (c.in_ok-boxes.ensures.drawn (state_of c.args.self.now) end k (draws_in c.args.self.now c.scale.result c.scale.ensures.scale))
    c.in_ok-add_boxes.ensures

pub returns-in_err-boxes-clause-fault : goal.returns-in_err-boxes-clause-fault
returns-in_err-boxes-clause-fault c =
    let p = err_from_is_err_and c.from_residual.result c.from_residual.ensures.1 in
    rw (p.1, p.2) (λ end k. c.in_err-boxes.ensures.fault (state_of c.args.self.now) end k
    (draws_in c.args.self.now c.scale.result c.scale.ensures.scale))
