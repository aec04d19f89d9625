-- The polygon, or its code.
use Rattle.std.proofs.Common.{Some, codes, flat_map, refl}
use Rattle.geom.specs.CifCommands.{point_parts}
use Rattle.cif_figures.proofs.PolygonPoints.{polygon_at, polygon_fault, polygon_bare, polygon_clear, polygon_is, polygon_leads}
use Rattle.cif_figures.proofs.polygons.polygon_drawn.Goals as goal

pub scaled_points-requires-clause-clear : goal.scaled_points-requires-clause-clear
scaled_points-requires-clause-clear c =
    let k = c.requires.command in
    let h = polygon_at c.args.text.now c.args.first k.0 c.behind_letters-at.result k.1 c.parts_stand.ensures
    (λ stop points. c.behind_letters-at.ensures.parts stop (codes "P") (flat_map point_parts points) refl) in (
      h.points,
      (polygon_clear k.1.stands.here.command c.args.text.now c.behind_letters-at.result c.args.scale c.args.layer c.corners_here-corners.result
          c.polygon_code.result h
          c.corners_here-corners.ensures c.polygon_code.ensures c.in-None.is).points_clear,
    )

pub returns-in-Some-clause-fault : goal.returns-in-Some-clause-fault
returns-in-Some-clause-fault c = λ s end k d.
    let h = polygon_at c.args.text.now c.args.first end c.behind_letters-at.result k c.parts_stand.ensures
    (λ stop points. c.behind_letters-at.ensures.parts stop (codes "P") (flat_map point_parts points) refl) in
    polygon_fault s k.stands.here.command c.args.text.now c.behind_letters-at.result c.args.scale c.args.layer c.corners_here-corners.result
    c.polygon_code.result
    (Some c.in-Some.code) h c.corners_here-corners.ensures c.polygon_code.ensures c.in-Some.is d

pub returns-in-None-layer-clause-fault : goal.returns-in-None-layer-clause-fault
returns-in-None-layer-clause-fault c = λ s end k d.
    let h = polygon_at c.args.text.now c.args.first end c.behind_letters-at.result k c.parts_stand.ensures
    (λ stop points. c.behind_letters-at.ensures.parts stop (codes "P") (flat_map point_parts points) refl) in
    absurd
    (polygon_bare k.stands.here.command c.args.text.now c.behind_letters-at.result c.args.scale c.args.layer c.corners_here-corners.result
    c.polygon_code.result h
    c.corners_here-corners.ensures c.polygon_code.ensures c.in-None.is c.in-None-layer.is)

pub returns-in_ok-scaled_points-in-Some-layer-clause-polygon : goal.returns-in_ok-scaled_points-in-Some-layer-clause-polygon
returns-in_ok-scaled_points-in-Some-layer-clause-polygon c =
    let k = c.requires.command in
    let h = polygon_at c.args.text.now c.args.first k.0 c.behind_letters-at.result k.1 c.parts_stand.ensures
    (λ stop points. c.behind_letters-at.ensures.parts stop (codes "P") (flat_map point_parts points) refl) in
    polygon_is k.1.stands.here.command c.args.text.now c.behind_letters-at.result c.args.scale c.args.layer c.corners_here-corners.result
    c.polygon_code.result
    c.in_ok-scaled_points-in-Some-layer.field-0.items c.requires.scale h c.corners_here-corners.ensures c.polygon_code.ensures c.in-None.is
    c.in_ok-scaled_points-in-Some-layer.ensures

pub returns-in_ok-scaled_points-in-Some-layer-clause-drawn : goal.returns-in_ok-scaled_points-in-Some-layer-clause-drawn
returns-in_ok-scaled_points-in-Some-layer-clause-drawn c = λ s end k d boxes b.
    let h = polygon_at c.args.text.now c.args.first end c.behind_letters-at.result k c.parts_stand.ensures
    (λ stop points. c.behind_letters-at.ensures.parts stop (codes "P") (flat_map point_parts points) refl) in
    polygon_leads s k.stands.here.command c.args.text.now c.behind_letters-at.result c.args.scale c.args.layer c.in-Some-layer.layer
    c.corners_here-corners.result
    c.polygon_code.result c.in_ok-scaled_points-in-Some-layer.field-0.items boxes h c.corners_here-corners.ensures c.polygon_code.ensures
    c.in-None.is c.in-Some-layer.is
    c.in_ok-scaled_points-in-Some-layer.ensures b d
