use Rattle.std.proofs.Common.{◌≡◌, ◌++◌, map}
use Rattle.std.specs.List.{range_with_len}
use Rattle.cell_network.specs.declared.part_net.PartNet.TheVariants.{Shared}
use Rattle.cell_network.specs.Shapes.{number}
use Rattle.cell_network.proofs.part.add_shared_loads.Given as goal

abbrev pub invariant-loop-y : goal.invariant-loop-y
invariant-loop-y l = l.loads.items ≡ l.initial.loads.items ++ map (λ y. number l.numbers (Shared y)) (range_with_len 0 l.y)
