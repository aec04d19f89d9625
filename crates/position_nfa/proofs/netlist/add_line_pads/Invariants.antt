use Rattle.std.proofs.Common.{◌≡◌, ◌++◌, map}
use Rattle.std.specs.List.{range_with_len}
use Rattle.position_nfa.specs.Registers.{line_pad}
use Rattle.position_nfa.proofs.netlist.add_line_pads.Given as goal

abbrev pub invariant-loop-i : goal.invariant-loop-i
invariant-loop-i l = l.pads.items ≡ l.initial.pads.items ++ map (line_pad l.counts l.names) (range_with_len 0 l.i)
