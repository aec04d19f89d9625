use Rattle.std.proofs.Common.{◌≡◌, ◌++◌, map}
use Rattle.std.specs.List.{range_with_len}
use Rattle.position_nfa.specs.Registers.{inverter, inverse_net, master_net}
use Rattle.position_nfa.proofs.array_part.add_inverses.Given as goal

abbrev pub invariant-loop-p : goal.invariant-loop-p
invariant-loop-p l = l.gates.items ≡ l.initial.gates.items ++ map (λ i. inverter (inverse_net l.counts i) (master_net l.counts i)) (range_with_len 0 l.p)
