-- The boxes between the two counts are those that begin in the row among the columns.
use Rattle.std.proofs.lemmas.Int.{to_z-of_z}
use mir.Val.{SFits}
use mir.Syntax.{w64}
use Rattle.canonical_boxes.proofs.Counts.{begins_at}
use Rattle.canonical_boxes.proofs.standing.begun_among.Goals as goal

pub returns-clause-numbers : goal.returns-clause-numbers
returns-clause-numbers c k b at =
    let fy : SFits w64 c.args.y = c.ranges.y in
    let ff : SFits w64 c.args.from = c.ranges.from in
    let ft : SFits w64 c.args.to = c.ranges.to in
    let passed = simp to_z-of_z at (c.count_passed.ensures.numbers k b at) in
    let reached = simp to_z-of_z at (c.count_reached.ensures.numbers k b at) in
    begins_at b c.args.y c.args.from c.args.to c.count_passed.result c.count_reached.result k passed reached
