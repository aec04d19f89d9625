-- The joined box is as high as the higher of the two.
use Rattle.std.proofs.Common.{rules, ◌≡◌, refl, w64, to_z, of_z}
use Rattle.std.specs.Int.{int_max}
use Rattle.std.proofs.lemmas.Int.{ints, to_z-of_z}
use Rattle.geom.specs.Squares.{BoxShape}
use Rattle.geom.proofs.Columns.{both_box}
use Rattle.geom.proofs.stacking.joined.Goals as goal

pub invariant_of-result : goal.invariant_of-result
invariant_of-result c =
    let l : BoxShape = record { layer = c.last.inside.layer; x1 = c.last.inside.x1; y1 = c.last.inside.y1; x2 = c.last.inside.x2; y2 = c.last.inside.y2 } in
    let s : BoxShape = record { layer = c.next.inside.layer; x1 = c.next.inside.x1; y1 = c.next.inside.y1; x2 = c.next.inside.x2; y2 = c.next.inside.y2 } in
    let x1 : to_z w64 (of_z w64 c.last.inside.x1) ≡ c.last.inside.x1 = search rules in
    let y1 : to_z w64 (of_z w64 c.last.inside.y1) ≡ c.last.inside.y1 = search rules in
    let x2 : to_z w64 (of_z w64 c.last.inside.x2) ≡ c.last.inside.x2 = search rules in
    let y2 : to_z w64 (of_z w64 c.max.result) ≡ int_max c.last.inside.y2 c.next.inside.y2 = search (rules, ints, to_z-of_z) in
    rw (x1, y1, x2, y2) (both_box l s c.last.invariant c.next.invariant)

pub returns : goal.returns
returns c =
    let x1 : to_z w64 (of_z w64 c.last.inside.x1) ≡ c.last.inside.x1 = search rules in
    let y1 : to_z w64 (of_z w64 c.last.inside.y1) ≡ c.last.inside.y1 = search rules in
    let x2 : to_z w64 (of_z w64 c.last.inside.x2) ≡ c.last.inside.x2 = search rules in
    let y2 : to_z w64 (of_z w64 c.max.result) ≡ int_max c.last.inside.y2 c.next.inside.y2 = search (rules, ints, to_z-of_z) in
    rw (x1, y1, x2, y2, ← c.last.view_is, ← c.next.view_is) refl
