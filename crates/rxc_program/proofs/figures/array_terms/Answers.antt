use Rattle.std.proofs.Common.{◌<◌, All, arith, sym, subst}
use Rattle.rx_lang.specs.Tables.{specification}
use Rattle.position_nfa.specs.Automaton.{IsAutomaton}
use Rattle.rxc_program.proofs.figures.array_terms.Goals as goal

-- src/figures.rt
pub returns-clause-terms : goal.returns-clause-terms
returns-clause-terms c =
    let spec = specification c.args.spec.now in
    let nfa = c.in_ok-nfa.nfa in
    let sound : IsAutomaton nfa = subst IsAutomaton c.nfa.view_is c.nfa.invariant in
    let automaton = c.in_ok-nfa.ensures.automaton spec c.requires.tree in
    let few : All (λ s. s < 256) nfa.symbols = subst (λ symbols. All (λ s. s < 256) symbols) (sym automaton.symbols) c.requires.symbols in
    rw c.terms.ensures.count (omega arith, c.terms_are_those_of_the_specification.ensures spec nfa sound few automaton)
