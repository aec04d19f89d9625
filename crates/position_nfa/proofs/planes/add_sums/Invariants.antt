use Rattle.std.proofs.Common.{◌≡◌, ◌++◌, map}
use Rattle.std.specs.List.{range_with_len}
use Rattle.position_nfa.specs.Registers.{step_named, sum_gate}
use Rattle.position_nfa.proofs.planes.add_sums.Given as goal

abbrev pub invariant-loop-position : goal.invariant-loop-position
invariant-loop-position l = l.gates.items ≡ l.initial.gates.items ++ map (sum_gate l.counts l.nfa (map step_named l.steps)) (range_with_len 0 l.position)
