-- Each square in turn becomes a query.
use Rattle.std.proofs.Common.{rules, pos, get_or}
use Rattle.std.proofs.lemmas.Int.{to_z-of_z}
use mir.Val.{SFits}
use mir.Syntax.{w64}
use Rattle.geom.specs.declared.point.Point.{Point}
use Rattle.canonical_boxes.proofs.Lists.{at_of}
use Rattle.canonical_boxes.proofs.Queries.{query_more}
use Rattle.canonical_boxes.proofs.locating.as_queries.Goals as goal

pub loop-number-preserved : goal.loop-number-preserved
loop-number-preserved c =
    let origin : Point = record { x = pos 0; y = pos 0 } in
    let square : Point = get_or c.args.squares.now c.loop-number.number origin in
    let fy : SFits w64 square.y = search rules in
    query_more c.args.squares.now c.loop-number.number square c.loop-number.queries.items c.push.new.self.items
    (at_of c.args.squares.now c.loop-number.number origin c.loop-number-test.true)
    (simp to_z-of_z at c.in_ok-push.ensures.items) c.loop-number.invariant
