use Rattle.std.specs.Prelude.{flat_map}
use Rattle.std.proofs.Common.{◌≡◌, ◌++◌}
use Rattle.std.specs.List.{range_with_len}
use Rattle.cell_network.specs.Whole.{cell_gates}
use Rattle.cell_network.proofs.whole.whole_gates.Given as goal

abbrev pub invariant-loop-v : goal.invariant-loop-v
invariant-loop-v l = l.gates.items ≡ l.initial.gates.items ++ flat_map (cell_gates l.counts l.nodes) (range_with_len 0 l.v)
