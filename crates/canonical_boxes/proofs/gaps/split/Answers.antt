-- The step that has the column is split there.
use Rattle.std.proofs.Common.{rules}
use Rattle.std.proofs.lemmas.Int.{to_z-of_z}
use mir.Val.{SFits}
use mir.Syntax.{w64}
use Rattle.canonical_boxes.specs.Skies.{IsStepAt}
use Rattle.canonical_boxes.proofs.Skies.{some_step}
use Rattle.canonical_boxes.proofs.gaps.split.Goals as goal

pub returns-in_ok-insert : goal.returns-in_ok-insert
returns-in_ok-insert c =
    let fx : SFits w64 c.args.x = c.ranges.x in
    let fh : SFits w64 c.in-Some.step.height = search rules in
    let step : IsStepAt c.args.tops.now c.args.x c.in-Some.step.from c.in-Some.step.height = simp to_z-of_z at c.in-Some.ensures in
    let u = simp to_z-of_z at c.in_ok-insert.ensures.updates in
    record { height = c.in-Some.step.height; has = record { from = c.in-Some.step.from; step = step }; at = u.1; others = u.2 }

pub returns-in_default : goal.returns-in_default
returns-in_default c =
    let fx : SFits w64 c.args.x = c.ranges.x in
    absurd (some_step c.args.tops.now c.args.x c.requires.sky c.requires.first (simp to_z-of_z at c.in_default.ensures))
