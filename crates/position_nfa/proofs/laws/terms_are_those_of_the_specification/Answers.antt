use Rattle.position_nfa.proofs.TermLists.{has_terms}
use Rattle.position_nfa.proofs.laws.terms_are_those_of_the_specification.Goals as goal

pub returns : goal.returns
returns c = λ spec nfa is small of. has_terms nfa spec is small of
