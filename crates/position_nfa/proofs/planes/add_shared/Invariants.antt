use Rattle.std.proofs.Common.{◌≡◌, ◌++◌, map}
use Rattle.std.specs.List.{range_with_len}
use Rattle.position_nfa.specs.Registers.{state_named, shared_gate}
use Rattle.position_nfa.proofs.planes.add_shared.Given as goal

abbrev pub invariant-loop-output : goal.invariant-loop-output
invariant-loop-output l = l.gates.items ≡ l.initial.gates.items ++ map (shared_gate l.counts l.nfa l.from (map state_named l.marked)) (range_with_len 0 l.output)
