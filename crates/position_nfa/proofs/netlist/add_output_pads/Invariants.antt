use Rattle.std.proofs.Common.{◌≡◌, ◌++◌, map}
use Rattle.std.specs.List.{range_with_len}
use Rattle.position_nfa.specs.Registers.{output_pad}
use Rattle.position_nfa.proofs.netlist.add_output_pads.Given as goal

abbrev pub invariant-loop-y : goal.invariant-loop-y
invariant-loop-y l = l.pads.items ≡ l.initial.pads.items ++ map (output_pad l.counts l.names) (range_with_len 0 l.y)
