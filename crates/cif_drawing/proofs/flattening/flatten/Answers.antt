-- What the parts answer.
use Rattle.std.proofs.Common.{◌≡◌, List, ◌∙◌, ap, subst}
use Rattle.std.proofs.lemmas.Result.{err_from_is_err_and}
use Rattle.geom.specs.CifDrawings.{CifStroke, CifDrawing}
use Rattle.cif_drawing.specs.declared.ink.Symbol.{Symbol}
use Rattle.cif_drawing.specs.Inks.{strokes_of}
use Rattle.cif_drawing.specs.Flattening.{IsFlattenFault}
use Rattle.cif_drawing.proofs.flattening.flatten.Goals as goal

pub returns-in_err-count-clause-fault : goal.returns-in_err-count-clause-fault
returns-in_err-count-clause-fault c =
    let p = err_from_is_err_and c.from_residual.result c.from_residual.ensures.1 in
    let e : strokes_of c.deref.result.now c.deref-2.result.now ≡ c.args.drawing.now.strokes =
    ap (λ (l : List Symbol). strokes_of l c.deref-2.result.now) c.deref.ensures.value
    ∙ (ap (strokes_of c.drawing.inside.symbols.items) c.deref-2.ensures.value ∙ ap (λ (v : CifDrawing). v.strokes) c.drawing.view_is) in
    let P : List CifStroke → Type 0 = λ l. IsFlattenFault l c.in_err-count.field-0.0 in
    rw (p.1, p.2) (subst P e c.in_err-count.ensures.fault)

pub returns-in_err-boxes-clause-fault : goal.returns-in_err-boxes-clause-fault
returns-in_err-boxes-clause-fault c =
    let p = err_from_is_err_and c.from_residual-in_err-boxes.result c.from_residual-in_err-boxes.ensures.1 in rw (p.1, p.2) tt

pub returns-in_err-labels-clause-fault : goal.returns-in_err-labels-clause-fault
returns-in_err-labels-clause-fault c =
    let p = err_from_is_err_and c.from_residual-in_err-labels.result c.from_residual-in_err-labels.ensures.1 in rw (p.1, p.2) tt
