use Rattle.std.proofs.Common.{◌≡◌, ◌++◌, map}
use Rattle.std.specs.List.{range_with_len}
use Rattle.position_nfa.specs.Registers.{state_named, mark_gate}
use Rattle.position_nfa.proofs.planes.add_mark_terms.Given as goal

abbrev pub invariant-loop-k : goal.invariant-loop-k
invariant-loop-k l = l.gates.items ≡ l.initial.gates.items ++ map (mark_gate l.counts l.from (map state_named l.marked)) (range_with_len 0 l.k)
