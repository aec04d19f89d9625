-- A box with these edges is pushed.
use Rattle.std.proofs.lemmas.Int.{to_z-of_z}
use mir.Val.{SFits}
use mir.Syntax.{w64}
use Rattle.canonical_boxes.proofs.Skies.{rectangle_pushed}
use Rattle.canonical_boxes.proofs.gaps.add_rectangle.Goals as goal

pub returns-in_ok-push : goal.returns-in_ok-push
returns-in_ok-push c =
    let f1 : SFits w64 c.args.x1 = c.ranges.x1 in
    let f2 : SFits w64 c.args.y1 = c.ranges.y1 in
    let f3 : SFits w64 c.args.x2 = c.ranges.x2 in
    let f4 : SFits w64 c.args.y2 = c.ranges.y2 in
    rectangle_pushed c.args.free.now.items c.push.new.self.items c.in-Some.b _ c.args.x1 c.args.y1 c.args.x2 c.args.y2
    (simp to_z-of_z at c.in-Some.ensures.edges) c.in_ok-push.ensures.items
