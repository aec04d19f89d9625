-- A polygon is drawn.
use Rattle.std.proofs.Common.{List, subst}
use Rattle.std.proofs.lemmas.Result.{err_from_is_err_and}
use Rattle.geom.specs.declared.point.Point.{Point}
use Rattle.geom.specs.CifShapes.{ArePolygonBoxes}
use Rattle.cif_kinds.specs.declared.kinds.CommandKind.TheVariants as kind
use Rattle.cif_figures.specs.Figures.{command_of}
use Rattle.cif_read.specs.States.{state_of}
use Rattle.cif_read.proofs.States.{draws_in}
use Rattle.cif_read.proofs.Drawn.{drawn}
use Rattle.cif_read.proofs.reader.Reader.draw_polygon.Goals as goal

pub returns-clause-read : goal.returns-clause-read
returns-clause-read c end k =
    let d = c.in_ok-add_polygon.ensures in
    let P : List Point → Type 0 = λ l. ArePolygonBoxes c.in_ok-found.found.layer l d.0 in
    drawn c.args.self.now c.add_polygon.new.self c.args.place (command_of c.args.text.now c.args.first end kind.Polygon k) d.0 0 c.requires.reader
    (c.in_ok-found.ensures.drawn (state_of c.args.self.now) end k (draws_in c.args.self.now c.scale.result c.scale.ensures.scale) d.0
    (subst P c.deref.ensures.value d.1)) d.2

pub returns-in_err-found-clause-fault : goal.returns-in_err-found-clause-fault
returns-in_err-found-clause-fault c =
    let p = err_from_is_err_and c.from_residual.result c.from_residual.ensures.1 in
    rw (p.1, p.2) (λ end k. c.in_err-found.ensures.fault (state_of c.args.self.now) end k
    (draws_in c.args.self.now c.scale.result c.scale.ensures.scale))
