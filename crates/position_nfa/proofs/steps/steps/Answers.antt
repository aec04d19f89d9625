use Rattle.std.proofs.Common.{◌≡◌, ◌++◌, length, map, List, ℕ, refl, ap, sym, subst, ◌∙◌, arith}
use Rattle.std.specs.Prelude.{flat_map}
use Rattle.std.specs.List.{AllByRecursion, range_with_len}
use Rattle.std.proofs.lemmas.List.{length-map}
use Rattle.rx_lang.specs.Positions.{start, scan_start, after, Step}
use Rattle.position_nfa.proofs.States.{IsState}
use Rattle.position_nfa.specs.Registers.{step_named, steps_from, steps}
use Rattle.position_nfa.proofs.StateSteps.{by_state, position_more, few_steps, steps_name, steps_named}
use Rattle.position_nfa.proofs.steps.steps.Goals as goal

pub loop-position-preserved : goal.loop-position-preserved
loop-position-preserved c =
    position_more (steps_from c.args.symbols c.args.nfa.now start ++ steps_from c.args.symbols c.args.nfa.now scan_start)
    (λ p. steps_from c.args.symbols c.args.nfa.now (after p)) c.loop-position.position
    (map step_named c.loop-position.steps.items) (map step_named c.add_steps-in-loop-position.new.steps.items)
    c.loop-position.invariant c.in_ok-add_steps-3.ensures

made : (c : goal.After-loop-position) → map step_named c.loop-position.steps.items ≡ steps c.args.symbols c.args.nfa.now
made c =
    let size : c.loop-position.position ≡ length c.args.nfa.now.symbols =
    omega (arith, c.loop-position-test.false, c.loop-position.auto.position-end, ap (λ (xs : List ℕ). length xs) c.symbols.ensures.symbols) in
    c.loop-position.invariant ∙ rw size (sym (by_state (steps_from c.args.symbols c.args.nfa.now) c.args.nfa.now))

pub returns-clause-steps : goal.returns-clause-steps
returns-clause-steps c = made c

pub returns-clause-few : goal.returns-clause-few
returns-clause-few c =
    let l = few_steps c.args.symbols c.args.nfa.now c.requires c.symbols.ensures.automaton.few in
    omega (arith, l, length-map c.loop-position.steps.items step_named, ap (λ (xs : List Step). length xs) (made c))

pub returns-clause-positions : goal.returns-clause-positions
returns-clause-positions c =
    steps_named c.args.nfa.now c.loop-position.steps.items
    (subst (λ (xs : List Step). AllByRecursion (λ (step : Step). IsState c.args.nfa.now step.state) xs) (sym (made c)) (steps_name c.args.symbols c.args.nfa.now))
