use Rattle.std.specs.Prelude.{◌<◌, All, length}
use Rattle.std.proofs.Common.{sym, subst}
use Rattle.position_nfa.proofs.DeclaredSymbols.{symbols_declared}
use Rattle.position_nfa.proofs.RegisterTerms.{registers_have_terms}
use Rattle.position_nfa.proofs.laws.registers_have_the_terms.Goals as goal

pub returns : goal.returns
returns c = λ nfa tables is spec agrees.
    registers_have_terms nfa tables is spec agrees
    (subst (λ symbols. All (λ s. s < length tables.symbols) symbols) (sym agrees.symbols)
    (symbols_declared c.trees_are_made_of_their_children.ensures.made tables spec))
