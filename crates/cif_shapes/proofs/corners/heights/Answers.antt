-- All heights, in order, each once.
use Rattle.std.proofs.Common.{◌≤◌, map, length, ap, ◌∙◌, arith}
use Rattle.std.proofs.lemmas.List.{take_all}
use Rattle.std.proofs.lemmas.List.Filters.{dedup_is}
use Rattle.geom.specs.declared.point.Point.{Point}
use Rattle.cif_shapes.proofs.Heights.{heights_once}
use Rattle.cif_shapes.proofs.corners.heights.Goals as goal

pub returns : goal.returns
returns c =
    let past : length c.args.points.now ≤ c.loop-p.p-index = omega arith in
    heights_once c.args.points.now c.loop-p.heights.items c.sort.new.self.items c.dedup.new.self.items
    (c.loop-p.invariant ∙ ap (map (λ (p : Point). p.y)) (take_all c.loop-p.p-index c.args.points.now past))
    c.in_ok-sort.ensures.permutation c.in_ok-sort.ensures.sorted (dedup_is _ _ _ c.dedup.ensures.filtered)
