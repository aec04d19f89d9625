use Rattle.std.proofs.Common.{◌≡◌, ◌++◌, map}
use Rattle.std.specs.List.{range_with_len}
use Rattle.position_nfa.specs.Registers.{inverter, output_net, shared_net}
use Rattle.position_nfa.proofs.array_part.add_outputs.Given as goal

abbrev pub invariant-loop-y : goal.invariant-loop-y
invariant-loop-y l = l.gates.items ≡ l.initial.gates.items ++ map (λ i. inverter (output_net l.counts i) (shared_net l.counts i)) (range_with_len 0 l.y)
