-- One segment after another.
use Rattle.std.proofs.Common.{ℕ, List, sym, subst, arith}
use Rattle.geom.specs.declared.point.Point.{Point}
use Rattle.geom.specs.Squares.{BoxShape}
use Rattle.cif_codes.specs.Scales.{ratio}
use Rattle.cif_figures.specs.Wires.{IsClearWire}
use Rattle.cif_figures.proofs.WirePoints.{WireRead, WireLeft, WireStep, wire_boxes, wire_read, wire_begin, wire_step, wire_more, wire_end, single_found, single_is}
use Rattle.cif_figures.proofs.Words.{word}
use Rattle.cif_figures.proofs.wires.boxes_of.Goals.{After-bend_here-next, After-segment_edges-edges-in-loop-scale}
use Rattle.cif_figures.proofs.wires.boxes_of.Goals as goal

-- the width and the first point
read : (c : After-bend_here-next) (w : ℕ) (points : List Point) (h : IsClearWire c.args.text.now c.args.first (ratio c.args.scale) w points)
    → WireRead c.args.text.now c.args.scale c.args.layer w h.stop c.bend_here-next.result.1 c.number_here-width.result.0 c.bend_here-next.result.0
    (wire_boxes c.args.scale c.args.layer w points)
read c w points h =
    wire_read c.args.text.now c.args.scale c.args.layer c.args.first w points h c.grid.result c.behind_letters.result c.number_here-width.result.1
    c.bend_here-next.result.1 c.number_here-width.result.0 c.bend_here-next.result.0 c.grid.ensures c.behind_letters.ensures.parts
    c.number_here-width.ensures.parts c.bend_here-next.ensures.parts

pub scaled_box-requires-clause-drawn : goal.scaled_box-requires-clause-drawn
scaled_box-requires-clause-drawn c =
    let w = c.requires.clear.0 in
    let points = c.requires.clear.1 in
    let h = c.requires.clear.2 in
    let r = read (goal.at.scaled_box-requires-clause-drawn c).After-bend_here-next w points h in
    let e = c.points_stand.ensures.no c.if-not-points_stand.true h.stop r.begun.rest r.begun.parts in
    let f = single_found c.args.text.now c.args.scale c.args.layer w h.stop c.bend_here-next.result.1 c.number_here-width.result.0
    c.bend_here-next.result.0 (wire_boxes c.args.scale c.args.layer w points) c.segment_edges-edges.result r e
    c.segment_edges-edges.ensures.stand c.segment_edges-edges.ensures.near in
    f.drawn

pub returns-then-not-points_stand : goal.returns-then-not-points_stand
returns-then-not-points_stand c = λ w points h.
    let r = read (goal.at.returns-then-not-points_stand c).After-bend_here-next w points h in
    let e = c.points_stand.ensures.no c.if-not-points_stand.true h.stop r.begun.rest r.begun.parts in
    single_is c.args.text.now c.args.scale c.args.layer w h.stop c.bend_here-next.result.1 c.number_here-width.result.0
    c.bend_here-next.result.0 (wire_boxes c.args.scale c.args.layer w points) c.new-boxes.result.items c.push.new.self.items
    c.segment_edges-edges.result c.scaled_box.result r e c.segment_edges-edges.ensures.stand c.segment_edges-edges.ensures.near
    c.scaled_box.ensures c.new-boxes.ensures.items c.in_ok-push.ensures.items

pub loop-scale-init : goal.loop-scale-init
loop-scale-init c = record {
  place = c.bend_here-next.ensures.within;
  near = c.bend_here-next.ensures.near;
  up_to = λ w points h. (
      let r = read (goal.at.loop-scale-init c).After-bend_here-next w points h in
      let all : List BoxShape = wire_boxes c.args.scale c.args.layer w points in
      let P : List BoxShape → Type 0 = λ l.
      WireLeft c.args.text.now c.args.scale c.args.layer w h.stop all c.bend_here-next.result.1 c.bend_here-next.result.0 l in
      subst P (sym c.new-boxes.ensures.items)
      (wire_begin c.args.text.now c.args.scale c.args.layer w h.stop c.bend_here-next.result.1 c.bend_here-next.result.0 all r.begun
      (c.points_stand.ensures.yes c.if-not-points_stand.false h.stop r.begun.rest r.begun.parts)));
}

-- the next segment
step : (c : After-segment_edges-edges-in-loop-scale) (w : ℕ) (points : List Point)
    (h : IsClearWire c.args.text.now c.args.first (ratio c.args.scale) w points)
    → WireStep c.args.text.now c.args.scale c.args.layer w h.stop (wire_boxes c.args.scale c.args.layer w points) c.loop-scale.from
    c.bend_here-next-in-loop-scale.result.1 c.loop-scale.last c.bend_here-next-in-loop-scale.result.0 c.loop-scale.boxes.items
    c.segment_edges-edges-in-loop-scale.result
step c w points h =
    let r = read (goal.at.After-segment_edges-edges-in-loop-scale c).After-bend_here-next w points h in
    let u = c.loop-scale.invariant.up_to w points h in
    wire_step c.args.text.now c.args.scale c.args.layer w h.stop (wire_boxes c.args.scale c.args.layer w points) c.loop-scale.from
    c.bend_here-next-in-loop-scale.result.1 (word c.number_here-width.result.0) c.loop-scale.last c.bend_here-next-in-loop-scale.result.0
    c.loop-scale.boxes.items c.segment_edges-edges-in-loop-scale.result u
    (c.points_stand-in-loop-scale.ensures.yes c.loop-scale-test.true h.stop u.rest u.parts) r.some r.stands
    c.bend_here-next-in-loop-scale.ensures.parts c.segment_edges-edges-in-loop-scale.ensures.stand c.segment_edges-edges-in-loop-scale.ensures.near

pub scaled_box-requires-in-loop-scale-clause-drawn : goal.scaled_box-requires-in-loop-scale-clause-drawn
scaled_box-requires-in-loop-scale-clause-drawn c =
    let s = step (goal.at.scaled_box-requires-in-loop-scale-clause-drawn c).After-segment_edges-edges-in-loop-scale c.requires.clear.0
    c.requires.clear.1 c.requires.clear.2 in
    s.way.drawn

pub loop-scale-smaller : goal.loop-scale-smaller
loop-scale-smaller c =
    let l = c.bend_here-next-in-loop-scale.ensures.later (c.points_stand-in-loop-scale.ensures.begins c.loop-scale-test.true) in
    omega (arith, l, c.bend_here-next-in-loop-scale.ensures.within)

pub loop-scale-preserved : goal.loop-scale-preserved
loop-scale-preserved c = record {
  place = c.bend_here-next-in-loop-scale.ensures.within;
  near = c.bend_here-next-in-loop-scale.ensures.near;
  up_to = λ w points h.
      wire_more c.args.text.now c.args.scale c.args.layer w h.stop (wire_boxes c.args.scale c.args.layer w points) c.loop-scale.from
      c.bend_here-next-in-loop-scale.result.1 c.loop-scale.last c.bend_here-next-in-loop-scale.result.0 c.loop-scale.boxes.items _
      c.segment_edges-edges-in-loop-scale.result c.scaled_box-in-loop-scale.result
      (step (goal.at.loop-scale-preserved c).After-segment_edges-edges-in-loop-scale w points h) c.scaled_box-in-loop-scale.ensures
      c.in_ok-push-2.ensures.items;
}

pub returns : goal.returns
returns c = λ w points h.
    let u = c.loop-scale.invariant.up_to w points h in
    wire_end c.args.text.now c.args.scale c.args.layer w h.stop (wire_boxes c.args.scale c.args.layer w points) c.loop-scale.from c.loop-scale.last
    c.loop-scale.boxes.items u (c.points_stand-in-loop-scale.ensures.no c.loop-scale-test.false h.stop u.rest u.parts)
