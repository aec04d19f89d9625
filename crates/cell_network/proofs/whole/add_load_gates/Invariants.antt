use Rattle.std.proofs.Common.{◌≡◌, ◌++◌, map}
use Rattle.std.specs.List.{range_with_len}
use Rattle.cell_network.specs.Whole.{load_gate}
use Rattle.cell_network.proofs.whole.add_load_gates.Given as goal

abbrev pub invariant-loop-y : goal.invariant-loop-y
invariant-loop-y l = l.gates.items ≡ l.initial.gates.items ++ map (load_gate l.counts) (range_with_len 0 l.y)
