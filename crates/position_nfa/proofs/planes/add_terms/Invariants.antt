use Rattle.std.proofs.Common.{◌≡◌, ◌++◌, map}
use Rattle.std.specs.List.{range_with_len}
use Rattle.position_nfa.specs.Registers.{step_named, step_gate}
use Rattle.position_nfa.proofs.planes.add_terms.Given as goal

abbrev pub invariant-loop-k : goal.invariant-loop-k
invariant-loop-k l = l.gates.items ≡ l.initial.gates.items ++ map (step_gate l.counts l.symbols (map step_named l.steps)) (range_with_len 0 l.k)
