-- One point after another.
use Rattle.std.proofs.Common.{ℕ, flat_map, subst, arith}
use Rattle.geom.specs.CifCommands.{point_parts}
use Rattle.cif_values.specs.Values.{PointStands}
use Rattle.cif_codes.specs.Scales.{ratio, grid_of}
use Rattle.cif_codes.proofs.PointCodes.{points_begin, point_next, points_more, points_end}
use Rattle.cif_codes.proofs.points.corners_here.Goals as goal

pub loop-scale-init : goal.loop-scale-init
loop-scale-init c = record {
  place = c.requires.place;
  few = omega arith;
  up_to = λ stop points p.
      points_begin (grid_of c.args.scale) (ratio c.args.scale) c.args.text.now stop points c.args.at c.none.result (c.none.ensures (ratio c.args.scale)) p;
}

pub loop-scale-preserved : goal.loop-scale-preserved
loop-scale-preserved c = record {
  place = c.point_here-next.ensures.within;
  few = (let l = c.point_here-next.ensures.later (c.points_stand.ensures.begins c.loop-scale-test.true) in
      omega (arith, l, c.loop-scale.invariant.few, c.with_point-corners.ensures.counted));
  up_to = λ stop points p. (
      let u = c.loop-scale.invariant.up_to stop points p in
      let n = point_next c.args.text.now c.loop-scale.from stop u.rest u.parts (c.points_stand.ensures.yes c.loop-scale-test.true stop u.rest u.parts) in
      let m = c.point_here-next.ensures.parts stop n.point (flat_map point_parts n.rest) n.parts in
      let P : ℕ → Type 0 = λ k. PointStands k n.point c.point_here-next.result.0 in
      points_more (grid_of c.args.scale) (ratio c.args.scale) c.args.text.now stop points c.loop-scale.from c.point_here-next.result.1 c.loop-scale.corners
      c.with_point-corners.result u n m.1 (c.with_point-corners.ensures.checked u.done n.point u.checked (subst P c.grid.ensures m.0)));
}

pub returns : goal.returns
returns c = λ stop points p.
    let u = c.loop-scale.invariant.up_to stop points p in
    points_end (grid_of c.args.scale) (ratio c.args.scale) c.args.text.now stop points c.loop-scale.from c.loop-scale.corners u
    (c.points_stand.ensures.no c.loop-scale-test.false stop u.rest u.parts)
