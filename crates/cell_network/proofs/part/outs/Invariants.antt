use Rattle.std.proofs.Common.{◌≡◌, map, take}
use Rattle.nor_net.specs.Netlist.{NorGate}
use Rattle.cell_network.proofs.part.outs.Given as goal

abbrev pub invariant-loop-gate : goal.invariant-loop-gate
invariant-loop-gate l = l.nets.items ≡ map (λ (g : NorGate). g.out) (take l.gate-index l.gates)
