use Rattle.std.proofs.Common.{◌≡◌, ◌+◌, [], ◌++◌, List, length, map, refl, ap, sym, subst, ◌∙◌}
use Rattle.std.proofs.lemmas.List.{length-map}
use Rattle.rx_lang.specs.Positions.{State, Step}
use Rattle.rx_lang.specs.Specification.{NamedPattern}
use Rattle.position_nfa.specs.Registers.{registers_of, step_named, state_named, steps, marked_states}
use Rattle.position_nfa.proofs.PlaneSteps.{gathers}
use Rattle.position_nfa.proofs.ArrayGates.{terms_counted}
use Rattle.position_nfa.proofs.netlist.array_gates.Goals as goal

pub returns-clause-gates : goal.returns-clause-gates
returns-clause-gates c =
    let going : map step_named c.in_ok-steps.steps.items ≡ steps (length c.args.spec.now.symbols) c.args.nfa.now =
    c.in_ok-steps.ensures.steps ∙ ap (λ (xs : List NamedPattern). steps (length xs) c.args.nfa.now) c.symbols.ensures.symbols in
    gathers _ _ _ _ _ _ _ c.new-gates.ensures.items c.in_ok-add_terms.ensures c.in_ok-add_sums.ensures c.in_ok-add_part_gates.ensures
    ∙ rw (
      c.deref.ensures.value,
      c.deref-2.ensures.value,
      c.deref-3.ensures.value,
      c.deref-4.ensures.value,
      going,
      c.in_ok-marked.ensures.states,
      c.requires.counts,
      c.symbols-2.ensures.symbols,
    )
    refl

pub returns-clause-terms : goal.returns-clause-terms
returns-clause-terms c =
    let going : map step_named c.in_ok-steps.steps.items ≡ steps (length c.args.spec.now.symbols) c.args.nfa.now =
    c.in_ok-steps.ensures.steps ∙ ap (λ (xs : List NamedPattern). steps (length xs) c.args.nfa.now) c.symbols.ensures.symbols in
    let a : c.len.result ≡ length (steps (length c.args.spec.now.symbols) c.args.nfa.now) =
    c.len.ensures ∙ c.in_ok-steps.steps.ok.0 ∙ sym (length-map c.in_ok-steps.steps.items step_named) ∙ ap (λ (xs : List Step). length xs) going in
    let b : c.len-2.result ≡ length (marked_states c.args.nfa.now) =
    c.len-2.ensures ∙ c.in_ok-marked.marked.ok.0 ∙ sym (length-map c.in_ok-marked.marked.items state_named) ∙ ap (λ (xs : List State). length xs) c.in_ok-marked.ensures.states in
    rw (a, b) (sym (terms_counted c.args.nfa.now c.args.spec.now c.symbols.ensures.specification))
