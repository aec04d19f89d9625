use Rattle.std.proofs.Common.{◌≡◌, ◌≤◌, ◌*◌, take, sum_by}
use Rattle.position_nfa.specs.Terms.{symbol_count}
use Rattle.position_nfa.proofs.term_count.follow_terms.Given as goal

abbrev pub invariant-loop-set : goal.invariant-loop-set
invariant-loop-set l = (l.count ≡ sum_by (symbol_count l.symbols) (take l.set-index l.follow)) × (l.count ≤ 256 * l.set-index)
