-- The boxes that begin in the row are the others, each added in turn.
use Rattle.std.proofs.Common.{◌↔◌, ℕ, ◌≤◌, ◌<◌}
use Rattle.std.proofs.lemmas.Int.{to_z-of_z}
use mir.Val.{SFits}
use mir.Syntax.{w64}
use Rattle.geom.specs.Squares.{BoxShape}
use Rattle.canonical_boxes.specs.Canonical.{IsAt}
use Rattle.canonical_boxes.specs.Standing.{BeginsAmong}
use Rattle.box_distances.proofs.Rows.{row_is, row_more}
use Rattle.box_distances.proofs.pairs.add_row.Goals as goal

pub loop-other-preserved : goal.loop-other-preserved
loop-other-preserved c =
    row_more c.args.one c.begun_among-first.result.0 c.loop-other.other c.begun_among-first.result.1 c.args.found.now.items c.loop-other.found.items
    c.push.new.self.items c.loop-other.auto.other c.loop-other-test.true c.in_ok-push.ensures.items c.loop-other.invariant

pub returns : goal.returns
returns c =
    let fy : SFits w64 c.args.y = c.ranges.y in
    let ff : SFits w64 c.args.from = c.ranges.from in
    let ft : SFits w64 c.args.to = c.ranges.to in
    let numbers : (k : ℕ) (d : BoxShape) → IsAt c.args.others.now k d
    → ((c.begun_among-first.result.0 ≤ k) × (k < c.begun_among-first.result.1)) ↔ BeginsAmong d c.args.y c.args.from c.args.to =
    λ k d p. simp to_z-of_z at (c.begun_among-first.ensures.numbers k d p) in
    row_is c.args.others.now c.args.one c.begun_among-first.result.0 c.loop-other.other c.begun_among-first.result.1 c.args.y c.args.from c.args.to
    c.args.found.now.items c.loop-other.found.items c.begun_among-first.ensures.within c.loop-other-test.false numbers c.loop-other.invariant
