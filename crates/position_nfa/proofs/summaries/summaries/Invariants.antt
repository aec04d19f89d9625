use Rattle.position_nfa.specs.Summaries.{AreFrontSummaries}
use Rattle.position_nfa.proofs.summaries.summaries.Given as goal

abbrev pub invariant-loop-k : goal.invariant-loop-k
invariant-loop-k l = AreFrontSummaries l.nodes l.k l.summaries.items
