use Rattle.std.proofs.Common.{◌≡◌, ◌++◌, map}
use Rattle.std.specs.List.{range_with_len}
use Rattle.cell_network.specs.Shapes.{numbered, symbol_gate}
use Rattle.cell_network.proofs.shapes.add_symbol_gates.Given as goal

abbrev pub invariant-loop-s : goal.invariant-loop-s
invariant-loop-s l =
    l.gates.items ≡ l.initial.gates.items ++ map (numbered l.numbers) (map (symbol_gate l.symbols) (range_with_len 0 l.s))
