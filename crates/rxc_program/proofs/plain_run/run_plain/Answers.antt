use Rattle.std.proofs.Common.{◌≡◌, List, [], map, Result, Ok, Err, All, sym, subst}
use Rattle.std.proofs.lemmas.List.Elements.{All-nil}
use Rattle.std.specs.Prelude.{OnOk, OnErr}
use Rattle.switch_sim.specs.Serving.{Listener}
use Rattle.switch_sim.specs.ServedLaws.{AreUnserved}
use Rattle.switch_sim.specs.declared.serving.Asked.{Asked}
use Rattle.rxc_program.proofs.plain_run.run_plain.Goals as goal

on_ok : {A E : Type 0} (result : Result A E) (P Q : Type 0) → (P → Q) → OnOk result P → OnOk result Q
on_ok (Ok x) P Q f h = f h
on_ok (Err e) P Q f h = tt

on_err : {A E : Type 0} (result : Result A E) (P Q : Type 0) → (P → Q) → OnErr result P → OnErr result Q
on_err (Ok x) P Q f h = tt
on_err (Err e) P Q f h = f h

-- there is none
none : {X : Type 0} (f : X → Listener) (asked : Asked) (xs : List X) → xs ≡ [] → AreUnserved asked (map f xs)
none f asked xs e = subst (λ l. AreUnserved asked (map f l)) (sym e) (All-nil _)

pub returns-clause-ok : goal.returns-clause-ok
returns-clause-ok g c =
    on_ok c.run_trace.result _ _
    (λ gains. (c.unserved_runs_write_lines.ensures.done c.args.network.now c.args.trace.now _ _ _ _ _ (none _ _ _ c.new-probes.ensures.items) gains).1)
    c.run_trace.ensures.ok

pub returns-clause-front : goal.returns-clause-front
returns-clause-front g c =
    on_err c.run_trace.result _ _
    (λ gains. (c.unserved_runs_write_lines.ensures.failed c.args.network.now c.args.trace.now _ _ _ _ _ (none _ _ _ c.new-probes.ensures.items) gains).1)
    c.run_trace.ensures.front
