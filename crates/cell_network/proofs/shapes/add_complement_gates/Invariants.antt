use Rattle.std.proofs.Common.{◌≡◌, ◌++◌, map}
use Rattle.std.specs.List.{range_with_len}
use Rattle.cell_network.specs.Shapes.{numbered, complement_gate}
use Rattle.cell_network.proofs.shapes.add_complement_gates.Given as goal

abbrev pub invariant-loop-line : goal.invariant-loop-line
invariant-loop-line l =
    l.gates.items ≡ l.initial.gates.items ++ map (numbered l.numbers) (map complement_gate (range_with_len 0 l.line))
