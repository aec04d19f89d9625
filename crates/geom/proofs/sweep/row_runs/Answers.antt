-- The boxes are swept over in turn, and the fence behind them.
use Rattle.std.proofs.Common.{refl, length, ◌≤◌, arith, subst}
use Rattle.geom.specs.declared.sweep.Strip.{Strip}
use Rattle.geom.specs.Sweeps.{Passes}
use Rattle.geom.proofs.Fence.{sweep_start, sweep_at, sweep_all, sweep_end, strip_at, fence_strip}
use Rattle.geom.proofs.sweep.row_runs.Goals as goal

pub loop-b-init : goal.loop-b-init
loop-b-init c = sweep_start c.args.layer c.args.boxes.now c.requires.boxes
    (record { layer = c.args.layer; begins = c.in_ok-new.field-0; ends = c.in_ok-new-2.field-0; runs = c.new-3.result })
    refl c.in_ok-new.ensures c.in_ok-new-2.ensures c.new-3.ensures.items

pub pass-requires : goal.pass-requires
pass-requires c = rw c.strip_of.ensures
    (strip_at c.args.layer c.args.boxes.now c.loop-b.b-index c.b-item.result c.loop-b-test.true c.b-item.is c.requires.boxes c.requires.columns)

pub loop-b-preserved : goal.loop-b-preserved
loop-b-preserved c =
    let P : Strip → Type 0 = λ s. Passes c.loop-b.sweep s s.bottom s.top c.pass.new.self in
    sweep_at c.args.layer c.args.boxes.now c.loop-b.b-index c.b-item.result c.loop-b-test.true c.b-item.is c.requires.boxes c.requires.columns
    c.loop-b.sweep c.pass.new.self c.loop-b.invariant c.in_ok-pass.ensures.layer (subst P c.strip_of.ensures c.in_ok-pass.ensures.passed)

pub pass-requires-2 : goal.pass-requires-2
pass-requires-2 c = fence_strip c.args.layer c.args.boxes.now c.requires.boxes

pub returns : goal.returns
returns c =
    let past : length c.args.boxes.now ≤ c.loop-b.b-index = omega arith in
    sweep_end c.args.layer c.args.boxes.now c.requires.boxes c.loop-b.sweep c.pass-2.new.self
    (sweep_all c.args.layer c.args.boxes.now c.loop-b.b-index c.loop-b.sweep past c.loop-b.invariant) c.in_ok-pass-2.ensures.layer c.in_ok-pass-2.ensures.passed
