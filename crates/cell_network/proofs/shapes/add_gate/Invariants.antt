use Rattle.std.proofs.Common.{◌≡◌, map, take}
use Rattle.cell_network.specs.Shapes.{number}
use Rattle.cell_network.proofs.shapes.add_gate.Given as goal

abbrev pub invariant-loop-input : goal.invariant-loop-input
invariant-loop-input l = l.nets.items ≡ map (number l.numbers) (take l.input-index l.inputs)
