use Rattle.std.proofs.Common.{◌≡◌, ◌++◌}
use Rattle.cell_network.specs.Parts.{ports_from}
use Rattle.cell_network.proofs.part.add_ports.Given as goal

abbrev pub invariant-loop-i : goal.invariant-loop-i
invariant-loop-i l = l.ports.items ≡ l.initial.ports.items ++ ports_from l.name l.net l.i
