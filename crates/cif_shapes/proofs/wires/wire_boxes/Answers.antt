-- Each segment lies between points of the wire.
use Rattle.std.proofs.Common.{◌≡◌, ◌≢◌, refl, ◌≤ℤ◌, ◌+◌, ◌-◌, ◌<◌, ◌≤◌, ℕ, ℤ, pos, List, ◌++◌, ◌∷◌, [], get_or, length, sym, subst, to_z, of_z, w64, arith}
use Rattle.std.proofs.lemmas.Int.{to_z-of_z}
use Rattle.geom.specs.declared.point.Point.{Point}
use Rattle.geom.specs.Squares.{BoxShape}
use Rattle.cif_shapes.specs.Wires.{AreWireBoxes}
use Rattle.cif_shapes.specs.Spans.{IsSpan}
use Rattle.cif_shapes.proofs.WireSegments.{HasBoxes, across_span, upward_span, boxes_more, boxes_all, length_wire, only_segment, next_segment, StandsAt}
use Rattle.cif_shapes.proofs.wires.wire_boxes.Goals as goal

abbrev origin : Point
origin = record { x = pos 0; y = pos 0 }

pub segment_box-requires-clause-across : goal.segment_box-requires-clause-across
segment_box-requires-clause-across c =
    let one : length c.args.points.now ≡ 1 = omega arith in
    let s = only_segment c.args.points.now origin one in
    let P : ℤ → Type 0 = λ w. IsSpan (get_or c.args.points.now 0 origin).x (get_or c.args.points.now 0 origin).x w in
    subst P (sym (to_z-of_z w64 c.args.width c.ranges.width)) (across_span c.args.width c.args.points.now _ _ c.requires s.between)

pub segment_box-requires-clause-upward : goal.segment_box-requires-clause-upward
segment_box-requires-clause-upward c =
    let one : length c.args.points.now ≡ 1 = omega arith in
    let s = only_segment c.args.points.now origin one in
    let P : ℤ → Type 0 = λ w. IsSpan (get_or c.args.points.now 0 origin).y (get_or c.args.points.now 0 origin).y w in
    subst P (sym (to_z-of_z w64 c.args.width c.ranges.width)) (upward_span c.args.width c.args.points.now _ _ c.requires s.between)

-- the segment before the point of this number
before : (points : List Point) (at : ℕ) → 1 ≤ at → at < length points → StandsAt points (at - 1) (get_or points (at - 1) origin) (get_or points at origin)
before points at first short =
    let e : at - 1 + 1 ≡ at = omega arith in
    let P : ℕ → Type 0 = λ j. StandsAt points (at - 1) (get_or points (at - 1) origin) (get_or points j origin) in
    subst P e (next_segment points (at - 1) origin (omega arith))

pub segment_box-requires-in-loop-at-clause-across : goal.segment_box-requires-in-loop-at-clause-across
segment_box-requires-in-loop-at-clause-across c =
    let s = before c.args.points.now c.loop-at.at (omega arith) c.loop-at-test.true in
    let P : ℤ → Type 0 = λ w. IsSpan (get_or c.args.points.now (c.loop-at.at - 1) origin).x (get_or c.args.points.now c.loop-at.at origin).x w in
    subst P (sym (to_z-of_z w64 c.args.width c.ranges.width)) (across_span c.args.width c.args.points.now _ _ c.requires s.between)

pub segment_box-requires-in-loop-at-clause-upward : goal.segment_box-requires-in-loop-at-clause-upward
segment_box-requires-in-loop-at-clause-upward c =
    let s = before c.args.points.now c.loop-at.at (omega arith) c.loop-at-test.true in
    let P : ℤ → Type 0 = λ w. IsSpan (get_or c.args.points.now (c.loop-at.at - 1) origin).y (get_or c.args.points.now c.loop-at.at origin).y w in
    subst P (sym (to_z-of_z w64 c.args.width c.ranges.width)) (upward_span c.args.width c.args.points.now _ _ c.requires s.between)

-- the width, as the loop has it
wide : (w v : ℤ) → v ≡ w → pos 1 ≤ℤ w → pos 1 ≤ℤ v
wide w v e h = let P : ℤ → Type 0 = λ z. pos 1 ≤ℤ z in subst P (sym e) h

pub loop-at-preserved : goal.loop-at-preserved
loop-at-preserved c =
    let w : ℤ = to_z w64 (of_z w64 c.args.width) in
    let s = before c.args.points.now c.loop-at.at (omega arith) c.loop-at-test.true in
    let b : BoxShape = c.segment_box-in-loop-at.result in
    let more : HasBoxes c.args.layer w c.args.points.now (c.loop-at.at - 1 + 1) (c.loop-at.boxes.items ++ b ∷ []) =
    boxes_more c.args.layer w c.args.points.now (c.loop-at.at - 1) c.loop-at.boxes.items b (get_or c.args.points.now (c.loop-at.at - 1) origin)
    (get_or c.args.points.now c.loop-at.at origin) (wide c.args.width w (to_z-of_z w64 c.args.width c.ranges.width) c.requires.wide) s.left
    (record {
      layer_is = c.segment_box-in-loop-at.ensures.layer;
      across = c.segment_box-in-loop-at.ensures.across;
      upward = c.segment_box-in-loop-at.ensures.upward;
    }) c.loop-at.invariant in
    let e : c.loop-at.at - 1 + 1 ≡ c.loop-at.at + 1 - 1 = omega arith in
    let P : ℕ → Type 0 = λ n. HasBoxes c.args.layer w c.args.points.now n (c.loop-at.boxes.items ++ b ∷ []) in
    let Q : List BoxShape → Type 0 = λ l. HasBoxes c.args.layer w c.args.points.now (c.loop-at.at + 1 - 1) l in
    subst Q (sym c.in_ok-push-2.ensures.items) (subst P e more)

several : (points : List Point) → points ≢ [] → (length points ≡ 1 → ⊥) → 1 < length points
several [] h one = absurd (h refl)
several (p ∷ []) h one = absurd (one refl)
several (p ∷ q ∷ ps) h one = omega arith

pub returns : goal.returns
returns c =
    let w : ℤ = to_z w64 (of_z w64 c.args.width) in
    let few : 1 < length c.args.points.now = several c.args.points.now c.requires.some c.if-points-eq1.false in
    let P : ℤ → Type 0 = λ v. AreWireBoxes c.args.layer v c.args.points.now c.loop-at.boxes.items in
    subst P (to_z-of_z w64 c.args.width c.ranges.width)
    (boxes_all c.args.layer w c.args.points.now (c.loop-at.at - 1) c.loop-at.boxes.items (omega (arith, length_wire c.args.points.now few)) c.loop-at.invariant)
