-- A square is in both where it is outside of neither.
use Rattle.std.proofs.Common.{◌↔◌, ℤ, List, sym, subst, ◌∙◌}
use Rattle.geom.specs.Squares.{BoxShape}
use Rattle.geom.specs.Rows.{Over}
use Rattle.canonical_boxes.specs.Skies.{InPlane}
use Rattle.canonical_boxes.proofs.Combined.{both_squares}
use Rattle.canonical_boxes.proofs.combining.both.Goals as goal

pub returns : goal.returns
returns c =
    let P : List BoxShape → Type 0 = λ l. (x y : ℤ) → Over l x y ↔ (InPlane x y × (Over c.args.b.now x y → ⊥)) in
    both_squares c.args.a.now c.args.b.now c.deref-2.result.now c.in_ok-set.set c.in_ok-outside.ensures.plane c.in_ok-set.ensures c.in_ok-outside.outside.items c.deref.result.now
    (c.deref-2.ensures.value ∙ c.in_ok-extend_from_slice.ensures.items) c.in_ok-outside.ensures.free
    (subst P (sym c.deref.ensures.value) c.in_ok-further.ensures.free)
