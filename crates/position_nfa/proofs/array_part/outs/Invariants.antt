use Rattle.std.proofs.Common.{◌≡◌, map, take}
use Rattle.nor_net.specs.Netlist.{NorGate}
use Rattle.position_nfa.proofs.array_part.outs.Given as goal

abbrev pub invariant-loop-gate : goal.invariant-loop-gate
invariant-loop-gate l = l.nets.items ≡ map (λ (g : NorGate). g.out) (take l.gate-index l.gates)
