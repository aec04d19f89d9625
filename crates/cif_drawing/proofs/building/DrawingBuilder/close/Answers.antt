-- The definition stands at the end of those that are closed.
use Rattle.std.proofs.Common.{◌≡◌, sym, subst}
use Rattle.cif_drawing.specs.Parts.{DrawingParts, closed_parts}
use Rattle.cif_drawing.specs.Building.{parts_of}
use Rattle.cif_drawing.proofs.Calling.{closed_draws, closed_keeps}
use Rattle.cif_drawing.proofs.building.DrawingBuilder.close.Goals as goal

pub invariant_of-self : goal.invariant_of-self
invariant_of-self c =
    closed_keeps c.self.inside.symbols c.push.new.self c.self.inside.opening c.take.new.self c.in-Some.symbol c.self.inside.strokes.items (sym c.in-Some.ensures.value)
    c.take.ensures.after c.in_ok-push.ensures.pushed c.self.invariant

pub returns-in_ok-push : goal.returns-in_ok-push
returns-in_ok-push c =
    let P : DrawingParts → Type 0 =
    λ v. parts_of c.push.new.self c.take.new.self c.self.inside.strokes.items c.self.inside.labels.items ≡ closed_parts v v.opening in
    subst P c.self.view_is
    (closed_draws c.self.inside.symbols c.push.new.self c.self.inside.opening c.take.new.self c.in-Some.symbol c.self.inside.strokes.items c.self.inside.labels.items
    (sym c.in-Some.ensures.value) c.take.ensures.after c.in_ok-push.ensures.pushed c.self.invariant)
