use Rattle.std.proofs.Common.{length, ◌-◌}
use Rattle.rx_syntax.proofs.NodeReading.{NodesAt}
use Rattle.rx_syntax.proofs.nodes.read_nodes.Given as goal

abbrev pub invariant-loop-at : goal.invariant-loop-at
invariant-loop-at l = NodesAt l.version l.text l.declarations l.at l.state l.builder

abbrev pub decreases-loop-at : goal.decreases-loop-at
decreases-loop-at l = length l.text - l.at
