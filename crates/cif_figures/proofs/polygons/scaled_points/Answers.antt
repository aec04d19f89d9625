-- One point after another.
use Rattle.std.proofs.Common.{List, flat_map, sym, subst, arith}
use Rattle.geom.specs.declared.point.Point.{Point}
use Rattle.geom.specs.CifCommands.{point_parts}
use Rattle.cif_figures.proofs.PolygonPoints.{PointsLeft, points_begin, points_next, points_more, points_end, next_x, next_y, same_stands}
use Rattle.cif_figures.proofs.polygons.scaled_points.Goals as goal

pub loop-scale-init : goal.loop-scale-init
loop-scale-init c = record {
  place = c.requires.place;
  left = λ points h. (
      let P : List Point → Type 0 = λ l. PointsLeft c.args.text.now c.args.scale h.stop points c.args.at l in
      subst P (sym c.new-points.ensures.items) (points_begin c.args.text.now c.args.scale points c.args.at h));
}

pub scaled_point-requires-clause-across : goal.scaled_point-requires-clause-across
scaled_point-requires-clause-across c =
    let k = c.requires.clear in
    let u = c.loop-scale.invariant.left k.0 k.1 in
    let n = points_next c.args.text.now c.args.scale k.1.stop k.0 c.loop-scale.from c.loop-scale.points.items u
    (c.points_stand.ensures.yes c.loop-scale-test.true k.1.stop u.rest u.parts) in
    next_x c.args.scale c.grid.result n.point c.point_here-next.result.0 n.here
    (c.point_here-next.ensures.parts k.1.stop n.point (flat_map point_parts n.rest) n.parts).0 c.point_here-next.ensures.near

pub scaled_point-requires-clause-upward : goal.scaled_point-requires-clause-upward
scaled_point-requires-clause-upward c =
    let k = c.requires.clear in
    let u = c.loop-scale.invariant.left k.0 k.1 in
    let n = points_next c.args.text.now c.args.scale k.1.stop k.0 c.loop-scale.from c.loop-scale.points.items u
    (c.points_stand.ensures.yes c.loop-scale-test.true k.1.stop u.rest u.parts) in
    next_y c.args.scale c.grid.result n.point c.point_here-next.result.0 n.here
    (c.point_here-next.ensures.parts k.1.stop n.point (flat_map point_parts n.rest) n.parts).0 c.point_here-next.ensures.near

pub loop-scale-smaller : goal.loop-scale-smaller
loop-scale-smaller c =
    let l = c.point_here-next.ensures.later (c.points_stand.ensures.begins c.loop-scale-test.true) in
    omega (arith, l, c.point_here-next.ensures.within)

pub loop-scale-preserved : goal.loop-scale-preserved
loop-scale-preserved c = record {
  place = c.point_here-next.ensures.within;
  left = λ points h. (
      let u = c.loop-scale.invariant.left points h in
      let n = points_next c.args.text.now c.args.scale h.stop points c.loop-scale.from c.loop-scale.points.items u
      (c.points_stand.ensures.yes c.loop-scale-test.true h.stop u.rest u.parts) in
      let m = c.point_here-next.ensures.parts h.stop n.point (flat_map point_parts n.rest) n.parts in
      points_more c.args.text.now c.args.scale h.stop points c.loop-scale.from c.point_here-next.result.1 c.loop-scale.points.items
      c.push.new.self.items
      c.scaled_point.result n m.1 (same_stands c.grid.result c.args.scale n.point c.point_here-next.result.0 c.scaled_point.result n.here m.0
      c.scaled_point.ensures)
      c.in_ok-push.ensures.items);
}

pub returns : goal.returns
returns c = λ points h.
    let u = c.loop-scale.invariant.left points h in
    points_end c.args.text.now c.args.scale h.stop points c.loop-scale.from c.loop-scale.points.items u
    (c.points_stand.ensures.no c.loop-scale-test.false h.stop u.rest u.parts)
