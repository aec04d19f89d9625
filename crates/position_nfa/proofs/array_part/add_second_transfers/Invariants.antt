use Rattle.std.proofs.Common.{◌≡◌, ◌++◌, map}
use Rattle.std.specs.List.{range_with_len}
use Rattle.position_nfa.specs.Registers.{second_transfer}
use Rattle.position_nfa.proofs.array_part.add_second_transfers.Given as goal

abbrev pub invariant-loop-p : goal.invariant-loop-p
invariant-loop-p l = l.transfers.items ≡ l.initial.transfers.items ++ map (second_transfer l.counts) (range_with_len 0 l.p)
