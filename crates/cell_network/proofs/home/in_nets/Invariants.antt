use Rattle.cell_network.proofs.Feeding.{FedBy}
use Rattle.cell_network.proofs.home.in_nets.Given as goal

abbrev pub invariant-loop-k : goal.invariant-loop-k
invariant-loop-k l = FedBy l.counts l.nodes l.k l.nets.items
