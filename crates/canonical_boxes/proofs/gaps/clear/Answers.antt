-- The last step before the end goes, until it begins at or before the first column.
use Rattle.std.proofs.Common.{rules, ℤ, pos, neg_ℤ, ◌-ℤ◌, ◌≤ℤ◌, ◌<ℤ◌, ◌^◌, None, refl, arith}
use Rattle.std.proofs.lemmas.Int.{ints, to_z-of_z}
use mir.Val.{SFits}
use mir.Syntax.{w64}
use Rattle.canonical_boxes.specs.Skies.{IsStepAt}
use Rattle.canonical_boxes.proofs.Climbs.{at_most_then, at_most_not}
use Rattle.canonical_boxes.proofs.Sweeps.{Sets}
use Rattle.canonical_boxes.proofs.Skies.{one_cleared, clearing_sky, all_cleared, none_left, fits_plane}
use Rattle.canonical_boxes.proofs.gaps.clear.Goals as goal

-- the column before the last is within reach
before_last : (from to : ℤ) → neg_ℤ (pos (2 ^ 40)) ≤ℤ from → from <ℤ to → to ≤ℤ pos (2 ^ 40) → SFits w64 (to -ℤ pos 1)
before_last from to low order high = fits_plane (to -ℤ pos 1) (omega (arith, ints)) (omega (arith, ints))

pub step_at-requires : goal.step_at-requires
step_at-requires c =
    let ff : SFits w64 c.args.from = c.ranges.from in
    let ft : SFits w64 c.args.to = c.ranges.to in
    clearing_sky c.args.from c.args.to c.args.tops.now c.loop-step.tops c.requires.first c.requires.sky (simp to_z-of_z at c.loop-step.invariant)

pub loop-step-preserved : goal.loop-step-preserved
loop-step-preserved c =
    let ff : SFits w64 c.args.from = c.ranges.from in
    let ft : SFits w64 c.args.to = c.ranges.to in
    let fl : SFits w64 (c.args.to -ℤ pos 1) = before_last c.args.from c.args.to c.requires.first c.requires.order c.requires.last in
    let fs : SFits w64 c.in-Some.step.from = search rules in
    let step : IsStepAt c.loop-step.tops (c.args.to -ℤ pos 1) c.in-Some.step.from c.in-Some.step.height = simp to_z-of_z at c.in-Some.ensures in
    let behind : c.args.from <ℤ c.in-Some.step.from = at_most_not c.in-Some.step.from c.args.from c.args.from fs ff refl c.if-step-from.false in
    let up : c.in-Some.step.from ≤ℤ (c.args.to -ℤ pos 1) = step.up_to in
    let u = c.remove.ensures.updates in
    let puts : Sets c.loop-step.tops c.remove.new.self c.in-Some.step.from None = record { at = u.1; others = u.2 } in
    rw (to_z-of_z w64 c.args.from ff, to_z-of_z w64 c.args.to ft)
    (one_cleared c.args.from c.args.to c.in-Some.step.from c.args.tops.now c.loop-step.tops c.remove.new.self behind (omega (arith, ints)) puts
    (simp to_z-of_z at c.loop-step.invariant))

pub returns-then-step-from : goal.returns-then-step-from
returns-then-step-from c =
    let ff : SFits w64 c.args.from = c.ranges.from in
    let ft : SFits w64 c.args.to = c.ranges.to in
    let fl : SFits w64 (c.args.to -ℤ pos 1) = before_last c.args.from c.args.to c.requires.first c.requires.order c.requires.last in
    let fs : SFits w64 c.in-Some.step.from = search rules in
    let step : IsStepAt c.loop-step.tops (c.args.to -ℤ pos 1) c.in-Some.step.from c.in-Some.step.height = simp to_z-of_z at c.in-Some.ensures in
    all_cleared c.args.from c.args.to c.in-Some.step.from c.in-Some.step.height c.args.tops.now c.loop-step.tops
    (at_most_then c.in-Some.step.from c.args.from c.args.from fs ff refl c.if-step-from.true) step (simp to_z-of_z at c.loop-step.invariant)

pub returns-in_default : goal.returns-in_default
returns-in_default c =
    let ff : SFits w64 c.args.from = c.ranges.from in
    let ft : SFits w64 c.args.to = c.ranges.to in
    let fl : SFits w64 (c.args.to -ℤ pos 1) = before_last c.args.from c.args.to c.requires.first c.requires.order c.requires.last in
    none_left c.args.from c.args.to c.args.tops.now c.loop-step.tops (simp to_z-of_z at c.in_default.ensures)
    (simp to_z-of_z at c.loop-step.invariant)
