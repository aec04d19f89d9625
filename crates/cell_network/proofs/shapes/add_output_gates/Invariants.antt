use Rattle.std.proofs.Common.{◌≡◌, ◌++◌, map}
use Rattle.std.specs.List.{range_with_len}
use Rattle.cell_network.specs.Shapes.{numbered, output_gate}
use Rattle.cell_network.proofs.shapes.add_output_gates.Given as goal

abbrev pub invariant-loop-y : goal.invariant-loop-y
invariant-loop-y l =
    l.gates.items ≡ l.initial.gates.items ++ map (numbered l.numbers) (map output_gate (range_with_len 0 l.y))
