use Rattle.std.proofs.Common.{◌≡◌, ◌++◌, length, map, List, ℕ, refl, ap, sym, subst, ◌∙◌, arith}
use Rattle.std.specs.List.{AllByRecursion}
use Rattle.std.proofs.lemmas.List.{length-map}
use Rattle.rx_lang.specs.Positions.{State, start, scan_start, after}
use Rattle.position_nfa.proofs.States.{IsState}
use Rattle.position_nfa.specs.Registers.{state_named, marked_at, marked_states}
use Rattle.position_nfa.proofs.StateSteps.{by_state, position_more, few_marked, marked_name, states_named}
use Rattle.position_nfa.proofs.steps.marked_states.Goals as goal

pub loop-position-preserved : goal.loop-position-preserved
loop-position-preserved c =
    position_more (marked_at c.args.nfa.now start ++ marked_at c.args.nfa.now scan_start) (λ p. marked_at c.args.nfa.now (after p)) c.loop-position.position
    (map state_named c.loop-position.states.items) (map state_named c.add_marked-in-loop-position.new.states.items)
    c.loop-position.invariant c.in_ok-add_marked-3.ensures

made : (c : goal.After-loop-position) → map state_named c.loop-position.states.items ≡ marked_states c.args.nfa.now
made c =
    let size : c.loop-position.position ≡ length c.args.nfa.now.symbols =
    omega (arith, c.loop-position-test.false, c.loop-position.auto.position-end, ap (λ (xs : List ℕ). length xs) c.symbols.ensures.symbols) in
    c.loop-position.invariant ∙ rw size (sym (by_state (marked_at c.args.nfa.now) c.args.nfa.now))

pub returns-clause-states : goal.returns-clause-states
returns-clause-states c = made c

pub returns-clause-few : goal.returns-clause-few
returns-clause-few c =
    let l = few_marked c.args.nfa.now c.symbols.ensures.automaton.few in
    omega (arith, l, length-map c.loop-position.states.items state_named, ap (λ (xs : List State). length xs) (made c))

pub returns-clause-positions : goal.returns-clause-positions
returns-clause-positions c =
    states_named c.args.nfa.now c.loop-position.states.items
    (subst (λ (xs : List State). AllByRecursion (IsState c.args.nfa.now) xs) (sym (made c)) (marked_name c.args.nfa.now))
