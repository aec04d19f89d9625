use Rattle.std.proofs.Common.{◌≡◌, ◌++◌, map}
use Rattle.cell_network.specs.Shapes.{numbered, mark_gates}
use Rattle.cell_network.proofs.shapes.add_mark_gates.Given as goal

abbrev pub invariant-loop-y : goal.invariant-loop-y
invariant-loop-y l = l.gates.items ≡ l.initial.gates.items ++ map (numbered l.numbers) (mark_gates l.y l.node)
