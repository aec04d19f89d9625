use Rattle.std.proofs.Common.{◌≡◌, ℕ, ◌<◌, false, take, get_or}
use Rattle.position_nfa.specs.Terms.{occurs}
use Rattle.position_nfa.proofs.term_count.mark_symbols.Given as goal

abbrev pub invariant-loop-position : goal.invariant-loop-position
invariant-loop-position l = (s : ℕ) → s < 256 → get_or l.occurring s false ≡ occurs l.symbols (take l.position-index l.positions) s
