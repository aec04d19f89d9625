-- It is added to what is open, or outside.
use Rattle.std.proofs.Common.{◌≡◌, [], ◌∷◌, Option, Some, subst}
use Rattle.rx_text.specs.declared.place.Place.{Place}
use Rattle.cif_drawing.specs.declared.ink.Symbol.{Symbol}
use Rattle.cif_drawing.specs.Shapes.{kept_ink, kept_place}
use Rattle.cif_drawing.specs.Parts.{DrawingParts, drawn_parts}
use Rattle.cif_drawing.specs.Building.{parts_of, IsAdded}
use Rattle.cif_drawing.proofs.Inking.{Draws, boxes_draw}
use Rattle.cif_drawing.proofs.building.DrawingBuilder.add_box.Goals as goal

pub invariant_of-self-2 : goal.invariant_of-self-2
invariant_of-self-2 c =
    let A : Option Symbol → Type 0 =
    λ o. IsAdded o c.self.inside.strokes.items (kept_place c.in_ok-kept.kept) (kept_ink c.in_ok-kept.kept) (Some c.of.result) 0 c.in_ok-self-inside.field-0 c.added.new.strokes.items in
    let W : Place → Type 0 =
    λ p. IsAdded c.self.inside.opening c.self.inside.strokes.items p (kept_ink c.in_ok-kept.kept) (Some c.of.result) 0 c.in_ok-self-inside.field-0 c.added.new.strokes.items in
    let d : Draws c.self.inside.symbols c.self.inside.opening c.self.inside.strokes.items c.self.inside.labels.items c.args.place (c.args.b ∷ []) 0 c.in_ok-self-inside.field-0 c.added.new.strokes.items =
    boxes_draw c.self.inside.symbols c.self.inside.opening c.in_ok-self-inside.field-0 c.self.inside.strokes.items c.added.new.strokes.items c.self.inside.labels.items
    c.args.place (kept_ink c.in_ok-kept.kept) (c.args.b ∷ []) c.of.result c.in_ok-kept.ensures.ink ((λ e. cc), c.of.ensures.measures, c.of.ensures.near) c.self.invariant (subst W c.in_ok-kept.ensures.place (subst A c.take-opening.ensures.value c.in_ok-self-inside.ensures.added)) in
    d.holds

pub returns : goal.returns
returns c =
    let A : Option Symbol → Type 0 =
    λ o. IsAdded o c.self.inside.strokes.items (kept_place c.in_ok-kept.kept) (kept_ink c.in_ok-kept.kept) (Some c.of.result) 0 c.in_ok-self-inside.field-0 c.added.new.strokes.items in
    let W : Place → Type 0 =
    λ p. IsAdded c.self.inside.opening c.self.inside.strokes.items p (kept_ink c.in_ok-kept.kept) (Some c.of.result) 0 c.in_ok-self-inside.field-0 c.added.new.strokes.items in
    let d : Draws c.self.inside.symbols c.self.inside.opening c.self.inside.strokes.items c.self.inside.labels.items c.args.place (c.args.b ∷ []) 0 c.in_ok-self-inside.field-0 c.added.new.strokes.items =
    boxes_draw c.self.inside.symbols c.self.inside.opening c.in_ok-self-inside.field-0 c.self.inside.strokes.items c.added.new.strokes.items c.self.inside.labels.items
    c.args.place (kept_ink c.in_ok-kept.kept) (c.args.b ∷ []) c.of.result c.in_ok-kept.ensures.ink ((λ e. cc), c.of.ensures.measures, c.of.ensures.near) c.self.invariant (subst W c.in_ok-kept.ensures.place (subst A c.take-opening.ensures.value c.in_ok-self-inside.ensures.added)) in
    let Q : DrawingParts → Type 0 =
    λ v. parts_of c.self.inside.symbols c.in_ok-self-inside.field-0 c.added.new.strokes.items c.self.inside.labels.items
    ≡ drawn_parts v c.args.place (c.args.b ∷ []) 0 v.opening in
    subst Q c.self.view_is d.parts
