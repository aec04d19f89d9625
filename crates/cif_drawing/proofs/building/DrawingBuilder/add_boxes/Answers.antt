-- They are added to what is open, or outside, where there are some.
use Rattle.std.proofs.Common.{◌≡◌, List, Option, Some, sym, ◌∙◌, refl, subst}
use Rattle.geom.specs.Squares.{BoxShape}
use Rattle.rx_text.specs.declared.place.Place.{Place}
use Rattle.cif_drawing.specs.declared.ink.Symbol.{Symbol}
use Rattle.cif_drawing.specs.Shapes.{kept_ink, kept_place}
use Rattle.cif_drawing.specs.Measures.{IsMeasure}
use Rattle.cif_drawing.specs.Parts.{DrawingParts, drawn_parts}
use Rattle.cif_drawing.specs.Building.{parts_of, IsAdded}
use Rattle.cif_drawing.proofs.Inking.{Draws, boxes_draw}
use Rattle.cif_drawing.proofs.Calling.{drawn_nothing}
use Rattle.cif_drawing.proofs.building.DrawingBuilder.add_boxes.Goals as goal

pub invariant_of-self-in-Some : goal.invariant_of-self-in-Some
invariant_of-self-in-Some c =
    let Q : List BoxShape → Type 0 = λ l. IsMeasure 0 (Some c.in-Some.measure) l in
    let m : IsMeasure 0 (Some c.in-Some.measure) c.args.boxes.items = subst Q c.deref.ensures.value c.in-Some.ensures in
    let A : Option Symbol → Type 0 =
    λ o. IsAdded o c.self.inside.strokes.items (kept_place c.in_ok-kept-in-Some.kept) (kept_ink c.in_ok-kept-in-Some.kept) (Some c.in-Some.measure) 0 c.in_ok-self-inside-in-Some.field-0 c.added.new.strokes.items in
    let W : Place → Type 0 =
    λ p. IsAdded c.self.inside.opening c.self.inside.strokes.items p (kept_ink c.in_ok-kept-in-Some.kept) (Some c.in-Some.measure) 0 c.in_ok-self-inside-in-Some.field-0 c.added.new.strokes.items in
    let d : Draws c.self.inside.symbols c.self.inside.opening c.self.inside.strokes.items c.self.inside.labels.items c.args.place c.args.boxes.items 0 c.in_ok-self-inside-in-Some.field-0 c.added.new.strokes.items =
    boxes_draw c.self.inside.symbols c.self.inside.opening c.in_ok-self-inside-in-Some.field-0 c.self.inside.strokes.items c.added.new.strokes.items c.self.inside.labels.items
    c.args.place (kept_ink c.in_ok-kept-in-Some.kept) c.args.boxes.items c.in-Some.measure c.in_ok-kept-in-Some.ensures.ink m c.self.invariant (subst W c.in_ok-kept-in-Some.ensures.place (subst A c.take-opening.ensures.value c.in_ok-self-inside-in-Some.ensures.added)) in
    d.holds

pub returns-in_ok-self-inside-in-Some : goal.returns-in_ok-self-inside-in-Some
returns-in_ok-self-inside-in-Some c =
    let Q : List BoxShape → Type 0 = λ l. IsMeasure 0 (Some c.in-Some.measure) l in
    let m : IsMeasure 0 (Some c.in-Some.measure) c.args.boxes.items = subst Q c.deref.ensures.value c.in-Some.ensures in
    let A : Option Symbol → Type 0 =
    λ o. IsAdded o c.self.inside.strokes.items (kept_place c.in_ok-kept-in-Some.kept) (kept_ink c.in_ok-kept-in-Some.kept) (Some c.in-Some.measure) 0 c.in_ok-self-inside-in-Some.field-0 c.added.new.strokes.items in
    let W : Place → Type 0 =
    λ p. IsAdded c.self.inside.opening c.self.inside.strokes.items p (kept_ink c.in_ok-kept-in-Some.kept) (Some c.in-Some.measure) 0 c.in_ok-self-inside-in-Some.field-0 c.added.new.strokes.items in
    let d : Draws c.self.inside.symbols c.self.inside.opening c.self.inside.strokes.items c.self.inside.labels.items c.args.place c.args.boxes.items 0 c.in_ok-self-inside-in-Some.field-0 c.added.new.strokes.items =
    boxes_draw c.self.inside.symbols c.self.inside.opening c.in_ok-self-inside-in-Some.field-0 c.self.inside.strokes.items c.added.new.strokes.items c.self.inside.labels.items
    c.args.place (kept_ink c.in_ok-kept-in-Some.kept) c.args.boxes.items c.in-Some.measure c.in_ok-kept-in-Some.ensures.ink m c.self.invariant (subst W c.in_ok-kept-in-Some.ensures.place (subst A c.take-opening.ensures.value c.in_ok-self-inside-in-Some.ensures.added)) in
    let R : DrawingParts → Type 0 =
    λ v. parts_of c.self.inside.symbols c.in_ok-self-inside-in-Some.field-0 c.added.new.strokes.items c.self.inside.labels.items
    ≡ drawn_parts v c.args.place c.args.boxes.items 0 v.opening in
    subst R c.self.view_is d.parts

pub returns-in-None : goal.returns-in-None
returns-in-None c =
    drawn_nothing c.args.self.now c.args.place c.args.boxes.items 0 c.args.self.now.opening refl (sym c.deref.ensures.value ∙ c.in-None.ensures) refl
