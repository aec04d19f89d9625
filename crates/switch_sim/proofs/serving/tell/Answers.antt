use Rattle.std.proofs.Common.{◌≤◌, ◌<◌, Result, Ok, Err, length, sym, arith}
use Rattle.std.specs.Prelude.{OnErr}
use Rattle.switch_sim.proofs.ToldPads.{begins, goes_on, stops, halts, ends_here}
use Rattle.switch_sim.proofs.serving.tell.Goals as goal

on_err : {A E : Type 0} (result : Result A E) (P : Type 0) → P → OnErr result P
on_err (Ok x) P h = tt
on_err (Err e) P h = h

pub loop-number-init : goal.loop-number-init
loop-number-init g c = begins _ _ _ _ _

pub loop-number-preserved : goal.loop-number-preserved
loop-number-preserved g c =
    let lt : c.loop-number.number < length c.args.pads.now = c.loop-number-test.true in
    goes_on _ _ _ _ _ c.loop-number.number _ _ _ _ c.index-pads-number.result c.in_ok-tell_pad.field-0 c.loop-number.invariant lt
    (sym c.index-pads-number.is) c.in_ok-tell_pad.ensures.seen c.in_ok-tell_pad.ensures.ended c.in_ok-tell_pad.ensures.manner c.if-branch.false

pub returns-in_err-tell_pad-clause-partly : goal.returns-in_err-tell_pad-clause-partly
returns-in_err-tell_pad-clause-partly g c =
    on_err c.from_residual.result _
    (halts _ _ _ _ _ c.loop-number.number _ _ _ _ c.loop-number.invariant c.in_err-tell_pad.ensures.untold c.in_err-tell_pad.ensures.manner).0

pub returns-in_err-tell_pad-clause-manner : goal.returns-in_err-tell_pad-clause-manner
returns-in_err-tell_pad-clause-manner g c =
    (halts _ _ _ _ _ c.loop-number.number _ _ _ _ c.loop-number.invariant c.in_err-tell_pad.ensures.untold c.in_err-tell_pad.ensures.manner).1

pub returns-then-branch-clause-seen : goal.returns-then-branch-clause-seen
returns-then-branch-clause-seen g c =
    let lt : c.loop-number.number < length c.args.pads.now = c.loop-number-test.true in
    (stops _ _ _ _ _ c.loop-number.number _ _ _ _ c.index-pads-number.result c.in_ok-tell_pad.field-0 c.loop-number.invariant lt
    (sym c.index-pads-number.is) c.in_ok-tell_pad.ensures.seen c.in_ok-tell_pad.ensures.ended c.in_ok-tell_pad.ensures.manner c.if-branch.true).0

pub returns-then-branch-clause-ended : goal.returns-then-branch-clause-ended
returns-then-branch-clause-ended g c =
    let lt : c.loop-number.number < length c.args.pads.now = c.loop-number-test.true in
    (stops _ _ _ _ _ c.loop-number.number _ _ _ _ c.index-pads-number.result c.in_ok-tell_pad.field-0 c.loop-number.invariant lt
    (sym c.index-pads-number.is) c.in_ok-tell_pad.ensures.seen c.in_ok-tell_pad.ensures.ended c.in_ok-tell_pad.ensures.manner c.if-branch.true).1

pub returns-then-branch-clause-manner : goal.returns-then-branch-clause-manner
returns-then-branch-clause-manner g c =
    let lt : c.loop-number.number < length c.args.pads.now = c.loop-number-test.true in
    (stops _ _ _ _ _ c.loop-number.number _ _ _ _ c.index-pads-number.result c.in_ok-tell_pad.field-0 c.loop-number.invariant lt
    (sym c.index-pads-number.is) c.in_ok-tell_pad.ensures.seen c.in_ok-tell_pad.ensures.ended c.in_ok-tell_pad.ensures.manner c.if-branch.true).2

pub returns-clause-seen : goal.returns-clause-seen
returns-clause-seen g c =
    let all : length c.args.pads.now ≤ c.loop-number.number = omega arith in
    (ends_here _ _ _ _ _ c.loop-number.number _ _ c.loop-number.invariant all).0

pub returns-clause-ended : goal.returns-clause-ended
returns-clause-ended g c =
    let all : length c.args.pads.now ≤ c.loop-number.number = omega arith in
    (ends_here _ _ _ _ _ c.loop-number.number _ _ c.loop-number.invariant all).1

pub returns-clause-manner : goal.returns-clause-manner
returns-clause-manner g c =
    let all : length c.args.pads.now ≤ c.loop-number.number = omega arith in
    (ends_here _ _ _ _ _ c.loop-number.number _ _ c.loop-number.invariant all).2
