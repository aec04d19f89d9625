use Rattle.std.proofs.Common.{◌≡◌, ◌+◌, ◌≤◌, Result, Ok, Err, length, arith}
use Rattle.std.specs.Prelude.{OnErr}
use Rattle.std.proofs.lemmas.List.{length-map}
use Rattle.switch_sim.proofs.Progress.{begins, goes_on, halts, all_served}
use Rattle.switch_sim.proofs.serving.serve.Goals as goal

on_err : {A E : Type 0} (result : Result A E) (P : Type 0) → P → OnErr result P
on_err (Ok x) P h = tt
on_err (Err e) P h = h

pub loop-at-init : goal.loop-at-init
loop-at-init g c = record { progress = begins _ _ _ _; never_falls = omega arith }

pub loop-at-preserved : goal.loop-at-preserved
loop-at-preserved g c = record {
  progress =
      (goes_on c.args.asked _ _ _ _ c.loop-at.at c.in_ok-at.at _ _ _ c.loop-at.invariant.progress (simp length-map (omega arith))
      c.in_ok-at.ensures.ok).0;
  never_falls = let a = c.loop-at.invariant.never_falls in let b = c.serve_one.ensures.never_falls in omega arith;
}

pub loop-at-smaller : goal.loop-at-smaller
loop-at-smaller g c =
    let sizes : length c.serve_one.new.probes.items + c.loop-at.at + 1 ≡ length c.loop-at.probes.items + c.in_ok-at.at =
    simp length-map at
    (goes_on c.args.asked _ _ _ _ c.loop-at.at c.in_ok-at.at _ _ _ c.loop-at.invariant.progress (simp length-map (omega arith)) c.in_ok-at.ensures.ok).1 in
    let within : c.in_ok-at.at ≤ length c.serve_one.new.probes.items =
    simp length-map at
    (goes_on c.args.asked _ _ _ _ c.loop-at.at c.in_ok-at.at _ _ _ c.loop-at.invariant.progress (simp length-map (omega arith)) c.in_ok-at.ensures.ok).2 in
    omega arith

pub returns-in_err-at-clause-partly : goal.returns-in_err-at-clause-partly
returns-in_err-at-clause-partly g c =
    on_err c.from_residual.result _
    (halts c.args.asked _ _ _ _ c.loop-at.at _ _ _ c.loop-at.invariant.progress (simp length-map (omega arith)) c.in_err-at.ensures.err).0

pub returns-in_err-at-clause-front : goal.returns-in_err-at-clause-front
returns-in_err-at-clause-front g c =
    on_err c.from_residual.result _
    (halts c.args.asked _ _ _ _ c.loop-at.at _ _ _ c.loop-at.invariant.progress (simp length-map (omega arith)) c.in_err-at.ensures.err).1

pub returns-clause-left : goal.returns-clause-left
returns-clause-left g c = (all_served c.args.asked _ _ _ c.loop-at.at _ _ c.loop-at.invariant.progress (simp length-map (omega arith))).0

pub returns-clause-ok : goal.returns-clause-ok
returns-clause-ok g c = (all_served c.args.asked _ _ _ c.loop-at.at _ _ c.loop-at.invariant.progress (simp length-map (omega arith))).1
