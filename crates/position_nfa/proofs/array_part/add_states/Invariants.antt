use Rattle.std.proofs.Common.{◌≡◌, ◌++◌, map}
use Rattle.std.specs.List.{range_with_len}
use Rattle.position_nfa.specs.Registers.{inverter, state_net, stored_net}
use Rattle.position_nfa.proofs.array_part.add_states.Given as goal

abbrev pub invariant-loop-p : goal.invariant-loop-p
invariant-loop-p l = l.gates.items ≡ l.initial.gates.items ++ map (λ i. inverter (state_net l.counts i) (stored_net l.counts i)) (range_with_len 0 l.p)
