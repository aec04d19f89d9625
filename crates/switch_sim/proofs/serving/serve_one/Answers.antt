use Rattle.std.proofs.Common.{Result, Ok, Err}
use Rattle.std.specs.Prelude.{OnErr}
use Rattle.switch_sim.proofs.ServedOne.{unserved, partly, stays, leaves, halts}
use Rattle.switch_sim.proofs.serving.serve_one.Goals as goal

on_err : {A E : Type 0} (result : Result A E) (P : Type 0) → P → OnErr result P
on_err (Ok x) P h = tt
on_err (Err e) P h = h

pub returns-then-not-is_served-clause-ok : goal.returns-then-not-is_served-clause-ok
returns-then-not-is_served-clause-ok g c =
    λ front rest one cut place.
    unserved _ c.args.asked _ c.args.probes.now.items c.args.at front rest one cut place c.index.result.now c.kind_of.result c.is_served.result _
    c.index.ensures c.kind_of.ensures c.is_served.ensures c.if-not-is_served.true

pub returns-in_err-tell-clause-err : goal.returns-in_err-tell-clause-err
returns-in_err-tell-clause-err g c =
    on_err c.from_residual.result _
    (λ front rest one cut place.
    partly _ c.args.asked _ c.args.probes.now.items c.args.at front rest one cut place c.index.result.now c.index_mut.result.now c.tell.new.probe
    c.kind_of.result c.is_served.result c.index.ensures c.kind_of.ensures c.is_served.ensures c.if-not-is_served.false c.index_mut.ensures.value
    c.in_err-tell.ensures.manner _ c.in_err-tell.ensures.partly)

pub returns-then-not-branch-clause-ok : goal.returns-then-not-branch-clause-ok
returns-then-not-branch-clause-ok g c =
    λ front rest one cut place.
    stays _ c.args.asked _ c.args.probes.now.items c.args.at front rest one cut place c.index.result.now c.index_mut.result.now c.tell.new.probe
    c.kind_of.result c.is_served.result c.index.ensures c.kind_of.ensures c.is_served.ensures c.if-not-is_served.false c.index_mut.ensures.value
    c.in_ok-tell.ensures.manner c.in_ok-tell.field-0 c.in_ok-tell.ensures.seen c.in_ok-tell.ensures.ended _ c.if-not-branch.true

pub returns-in_err-put_text-clause-err : goal.returns-in_err-put_text-clause-err
returns-in_err-put_text-clause-err g c =
    on_err c.from_residual-in_err-put_text.result _
    (λ front rest one cut place.
    halts _ c.args.asked _ c.args.probes.now.items c.args.at front rest one cut place c.index.result.now c.index_mut.result.now c.tell.new.probe
    c.kind_of.result c.is_served.result c.index.ensures c.kind_of.ensures c.is_served.ensures c.if-not-is_served.false c.index_mut.ensures.value
    c.in_ok-tell.ensures.manner c.in_ok-tell.field-0 c.in_ok-tell.ensures.seen c.in_ok-tell.ensures.ended c.if-not-branch.false
    c.remove-probe.result c.remove-probe.new.self.items c.remove-probe.ensures.value c.remove-probe.ensures.items _ _ c.in_err-put_text.ensures.front)

pub returns-clause-ok : goal.returns-clause-ok
returns-clause-ok g c =
    λ front rest one cut place.
    leaves _ c.args.asked _ c.args.probes.now.items c.args.at front rest one cut place c.index.result.now c.index_mut.result.now c.tell.new.probe
    c.kind_of.result c.is_served.result c.index.ensures c.kind_of.ensures c.is_served.ensures c.if-not-is_served.false c.index_mut.ensures.value
    c.in_ok-tell.ensures.manner c.in_ok-tell.field-0 c.in_ok-tell.ensures.seen c.in_ok-tell.ensures.ended c.if-not-branch.false
    c.remove-probe.result c.remove-probe.new.self.items c.remove-probe.ensures.value c.remove-probe.ensures.items _ _ c.in_ok-put_text.ensures.ok
