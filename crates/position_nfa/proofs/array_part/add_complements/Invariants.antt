use Rattle.std.proofs.Common.{◌≡◌, ◌++◌, map}
use Rattle.std.specs.List.{range_with_len}
use Rattle.position_nfa.specs.Registers.{inverter, complement_net, line_net}
use Rattle.position_nfa.proofs.array_part.add_complements.Given as goal

abbrev pub invariant-loop-i : goal.invariant-loop-i
invariant-loop-i l = l.gates.items ≡ l.initial.gates.items ++ map (λ i. inverter (complement_net l.counts i) (line_net l.counts i)) (range_with_len 0 l.i)
