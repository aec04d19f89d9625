-- A side that is met counts.
use Rattle.std.proofs.Common.{◌≡◌, ◌%◌, ◌==◌, ◌+◌, ℤ, ℕ, ap, subst, sym, ◌∙◌, to_z, of_z, w64}
use Rattle.std.proofs.lemmas.Int.{to_z-of_z}
use Rattle.geom.specs.CifShapes.{Segment, is_inside_polygon}
use Rattle.cif_shapes.proofs.PolygonSides.{HasMet, met_more, met_as_many, all_met}
use Rattle.cif_shapes.proofs.sides.inside.Goals as goal
use Rattle.cif_shapes.proofs.sides.inside.Goals.{then-meets_ray, else-meets_ray}

pub loop-at-preserved : goal.loop-at-preserved
loop-at-preserved c =
    let x : ℤ = to_z w64 (of_z w64 c.args.x) in
    let y : ℤ = to_z w64 (of_z w64 c.args.y) in
    let s : Segment = record { start = c.side.result.0; stop = c.side.result.1 } in
    let P : ℕ → Type 0 = λ n. HasMet c.args.points.now x y (c.loop-at.at + 1) n in
    elim c.if-meets_ray.branch [
      | then-meets_ray w ↦
          subst P (sym w.met-is)
          (met_more c.args.points.now x y c.loop-at.at c.loop-at.met s c.side.ensures (sym c.meets_ray.ensures ∙ w.if-meets_ray.true) c.loop-at.invariant)
      | else-meets_ray w ↦
          subst P (sym w.met-is)
          (met_as_many c.args.points.now x y c.loop-at.at c.loop-at.met s c.side.ensures (sym c.meets_ray.ensures ∙ w.if-meets_ray.false) c.loop-at.invariant)
    ]

pub returns : goal.returns
returns c =
    let P : ℤ → Type 0 = λ x. (c.loop-at.met % 2 == 1) ≡ is_inside_polygon c.args.points.now x c.args.y in
    let Q : ℤ → Type 0 = λ y. (c.loop-at.met % 2 == 1) ≡ is_inside_polygon c.args.points.now (to_z w64 (of_z w64 c.args.x)) y in
    subst P (to_z-of_z w64 c.args.x c.ranges.x) (subst Q (to_z-of_z w64 c.args.y c.ranges.y)
    (ap (λ (n : ℕ). n % 2 == 1) (all_met c.args.points.now (to_z w64 (of_z w64 c.args.x)) (to_z w64 (of_z w64 c.args.y)) c.loop-at.at c.loop-at.met
    c.loop-at-test.false c.loop-at.invariant)))
