use mathlib.Core.Path.{fun_ext}
use Rattle.std.proofs.Common.{◌≡◌, ℕ, zero, suc, ◌+◌, ◌<◌, ◌≤◌, List, [], ◌∷◌, ◌++◌, Bool, true, false, Option, Result, Ok, Err, length, get_or, take, drop, map, replicate, refl, sym, ap, ◌∙◌, subst, arith}
use Rattle.std.proofs.lemmas.List.{take_more, take_all, take-append-drop, length-take-le}
use Rattle.std.specs.Prelude.{OnErr}
use Rattle.switch_net.specs.Circuit.{Circuit}
use Rattle.switch_net.specs.Ternary.{Levels, nothing_known, ClockLevels}
use Rattle.switch_net.specs.declared.network.Level.TheVariants.{Unknown}
use Rattle.switch_sim.specs.Simulation.{Simulation, level_at}
use Rattle.std.specs.Io.KnownBytes.{Appends}
use Rattle.rx_io.specs.Streams.{AppendsFront}
use Rattle.switch_sim.specs.Serving.{Listener, texts_at_end, GainsServed, GainsServedFront}
use Rattle.switch_sim.specs.declared.serving.Asked.{Asked}
use Rattle.switch_sim.proofs.ServedRuns.{none_served, served_all, end_halts}
use Rattle.switch_sim.proofs.EndedClocks.{first_ended, later_ended, first_halted, later_halted}
use Rattle.switch_sim.proofs.run.run_clocks.Goals as goal

on_err : {A E : Type 0} (result : Result A E) (P : Type 0) → P → OnErr result P
on_err (Ok x) P h = tt
on_err (Err e) P h = h

known : (n net : ℕ) → get_or (replicate n Unknown) net Unknown ≡ Unknown
known zero net = refl
known (suc n) zero = refl
known (suc n) (suc net) = known n net

-- the first clock, from levels of which nothing is known
first_clock : (sim : Simulation) (network : Circuit) (v : Levels) → sim ≡ record { circuit = network; levels = replicate network.nets Unknown }
    → ClockLevels sim.circuit true [] (level_at sim.levels) v → ClockLevels network true [] nothing_known v
first_clock sim network v e h =
    subst (λ (q : Levels). ClockLevels network true [] q v) (fun_ext (known network.nets))
    (subst (λ (s : Simulation). ClockLevels s.circuit true [] (level_at s.levels) v) e h)

-- a further clock, of an equal network with an equal vector
next_clock : (circuit network : Circuit) (x y : List Bool) (q v : Levels) → circuit ≡ network → x ≡ y → ClockLevels circuit false x q v
    → ClockLevels network false y q v
next_clock circuit network x y q v e f h =
    subst (λ l. ClockLevels network false l q v) f (subst (λ (k : Circuit). ClockLevels k false x q v) e h)

-- the same vectors
same_run : (old new : Option (List ℕ)) (network : Circuit) (asked : Asked) (before after : List Listener) (u trace : List (List Bool)) → u ≡ trace
    → GainsServed old new network u asked before after → GainsServed old new network trace asked before after
same_run old new network asked before after u trace e h = subst (λ l. GainsServed old new network l asked before after) e h

same_front : (old new : Option (List ℕ)) (network : Circuit) (asked : Asked) (before after : List Listener) (u trace : List (List Bool)) → u ≡ trace
    → GainsServedFront old new network u asked before after → GainsServedFront old new network trace asked before after
same_front old new network asked before after u trace e h = subst (λ l. GainsServedFront old new network l asked before after) e h

-- the texts of the same probes
same_texts : {X : Type 0} (f : X → Listener) (asked : Asked) (some others : List X) (Is : List ℕ → Type 0) → some ≡ others
    → Is (texts_at_end asked (map f some)) → Is (texts_at_end asked (map f others))
same_texts f asked some others Is e h = subst (λ l. Is (texts_at_end asked (map f l))) e h

pub returns-in_err-sim-clause-front : goal.returns-in_err-sim-clause-front
returns-in_err-sim-clause-front g c =
    on_err c.from_residual.result _
    (none_served c.args.network.now c.args.asked c.ternary_runs_exist.ensures.run c.requires.valid c.args.trace.now _ _)

pub returns-in_err-end_clock-clause-front : goal.returns-in_err-end_clock-clause-front
returns-in_err-end_clock-clause-front g c =
    let circuit : c.clock.new.self.circuit ≡ c.args.network.now = c.clock.ensures.circuit ∙ ap (λ (s : Simulation). s.circuit) c.in_ok-sim.ensures in
    on_err c.from_residual-in_err-end_clock.result _
    (first_halted c.args.network.now _ _ c.args.asked circuit c.requires.pads c.ternary_runs_exist.ensures.clocks c.requires.valid
    c.args.trace.now _ _ _ _ _ (first_clock c.in_ok-sim.sim c.args.network.now _ c.in_ok-sim.ensures c.clock.ensures.levels)
    c.in_err-end_clock.ensures.partly c.in_err-end_clock.ensures.front)

pub loop-at-init : goal.loop-at-init
loop-at-init g c =
    let circuit : c.clock.new.self.circuit ≡ c.args.network.now = c.clock.ensures.circuit ∙ ap (λ (s : Simulation). s.circuit) c.in_ok-sim.ensures in
    record {
      served = first_ended c.args.network.now _ _ c.args.asked circuit c.requires.pads _ _ _ _ _
          (first_clock c.in_ok-sim.sim c.args.network.now _ c.in_ok-sim.ensures c.clock.ensures.levels)
          c.in_ok-end_clock.ensures.left c.in_ok-end_clock.ensures.ok;
      circuit = circuit;
      never_falls = c.end_clock.ensures.never_falls;
    }

pub returns-in_err-end_clock-2-clause-front : goal.returns-in_err-end_clock-2-clause-front
returns-in_err-end_clock-2-clause-front g c =
    let trace = c.args.trace.now in
    let at = c.loop-at.at in
    let lt : at < length trace = omega (arith, c.len-at-end.ensures.count) in
    let circuit : c.clock-in-loop-at.new.self.circuit ≡ c.args.network.now = c.clock-in-loop-at.ensures.circuit ∙ c.loop-at.invariant.circuit in
    let size : length (take at trace) ≡ at = length-take-le at trace (omega arith) in
    let whole : trace ≡ (take at trace ++ get_or trace at [] ∷ []) ++ drop (at + 1) trace =
    sym (take-append-drop (at + 1) trace) ∙ ap (λ l. l ++ drop (at + 1) trace) (take_more trace at [] lt) in
    on_err c.from_residual-in_err-end_clock-2.result _
    (later_halted c.args.network.now _ _ c.args.asked circuit c.requires.pads c.ternary_runs_exist.ensures.clocks c.requires.valid
    trace (take at trace) (drop (at + 1) trace) _ _ _ _ _ _ _ _ (get_or trace at []) (at + 1) (omega arith) whole c.loop-at.invariant.served
    (next_clock _ _ _ _ _ _ c.loop-at.invariant.circuit c.vector.ensures c.clock-in-loop-at.ensures.levels)
    c.in_err-end_clock-2.ensures.partly c.in_err-end_clock-2.ensures.front)

pub loop-at-preserved : goal.loop-at-preserved
loop-at-preserved g c =
    let trace = c.args.trace.now in
    let at = c.loop-at.at in
    let lt : at < length trace = omega (arith, c.len-at-end.ensures.count) in
    let circuit : c.clock-in-loop-at.new.self.circuit ≡ c.args.network.now = c.clock-in-loop-at.ensures.circuit ∙ c.loop-at.invariant.circuit in
    let size : length (take at trace) ≡ at = length-take-le at trace (omega arith) in
    record {
      served = rw (take_more trace at [] lt)
          (later_ended c.args.network.now _ _ c.args.asked circuit c.requires.pads (take at trace) _ _ _ _ _ _ _ _ (get_or trace at []) (at + 1)
          (omega arith) c.loop-at.invariant.served
          (next_clock _ _ _ _ _ _ c.loop-at.invariant.circuit c.vector.ensures c.clock-in-loop-at.ensures.levels)
          c.in_ok-end_clock-2.ensures.left c.in_ok-end_clock-2.ensures.ok);
      circuit = circuit;
      never_falls = let a = c.loop-at.invariant.never_falls in let b = c.end_clock-in-loop-at.ensures.never_falls in omega arith;
    }

pub returns-in_err-put_texts-clause-front : goal.returns-in_err-put_texts-clause-front
returns-in_err-put_texts-clause-front g c =
    let all : length c.args.trace.now ≤ c.loop-at.at = omega (arith, c.len-at-end.ensures.count) in
    on_err c.from_residual-in_err-put_texts.result _
    (same_front _ _ _ _ _ _ _ _ (take_all c.loop-at.at c.args.trace.now all)
    (end_halts c.args.network.now c.args.asked _ _ _ _ _ _ _ c.loop-at.invariant.served
    (same_texts _ c.args.asked c.deref.result.now c.loop-at.probes.items (AppendsFront _ _) c.deref.ensures.value c.in_err-put_texts.ensures.front)))

pub returns-clause-ok : goal.returns-clause-ok
returns-clause-ok g c =
    let all : length c.args.trace.now ≤ c.loop-at.at = omega (arith, c.len-at-end.ensures.count) in
    same_run _ _ _ _ _ _ _ _ (take_all c.loop-at.at c.args.trace.now all)
    (served_all c.args.network.now c.args.asked _ _ _ _ _ _ _ c.loop-at.invariant.served
    (same_texts _ c.args.asked c.deref.result.now c.loop-at.probes.items (Appends _ _) c.deref.ensures.value c.in_ok-put_texts.ensures.ok))
