use Rattle.rx_lang.proofs.NodeTrees.{node_made}
use Rattle.rx_lang.proofs.Bounds.{trees_bounded}
use Rattle.rx_lang.proofs.laws.trees_are_made_of_their_children.Goals as goal

pub returns : goal.returns
returns c = record { made = node_made; bounded = trees_bounded }
