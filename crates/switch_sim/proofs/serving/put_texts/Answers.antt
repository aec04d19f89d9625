use Rattle.std.proofs.Common.{Result, Ok, Err, sym, arith}
use Rattle.std.specs.Prelude.{OnErr}
use Rattle.std.proofs.KnownBytes.{Appends-nil}
use Rattle.switch_sim.proofs.EndTexts.{ends_gained, ends_front}
use Rattle.switch_sim.proofs.serving.put_texts.Goals as goal

on_err : {A E : Type 0} (result : Result A E) (P : Type 0) → P → OnErr result P
on_err (Ok x) P h = tt
on_err (Err e) P h = h

pub loop-probe-init : goal.loop-probe-init
loop-probe-init g c = record { gained = Appends-nil _; never_falls = omega arith }

pub loop-probe-preserved : goal.loop-probe-preserved
loop-probe-preserved g c = record {
  gained = ends_gained c.args.asked _ c.args.probes.now c.loop-probe.probe-index c.probe-item.result c.loop-probe-test.true (sym c.probe-item.is) _ _ _
      c.loop-probe.invariant.gained c.in_ok-put_served.ensures.ok;
  never_falls = let a = c.loop-probe.invariant.never_falls in let b = c.put_served.ensures.never_falls in omega arith;
}

pub returns-in_err-put_served-clause-front : goal.returns-in_err-put_served-clause-front
returns-in_err-put_served-clause-front g c =
    on_err c.from_residual.result _
    (ends_front c.args.asked _ c.args.probes.now c.loop-probe.probe-index c.probe-item.result c.loop-probe-test.true (sym c.probe-item.is) _ _ _
    c.loop-probe.invariant.gained c.in_err-put_served.ensures.front)
