use Rattle.block_grid.proofs.PortEdges.{found_nodes_stand, standing_nodes_are_found}
use Rattle.block_grid.proofs.laws.nodes_are_found.Goals as goal

pub returns : goal.returns
returns c = record { stand = found_nodes_stand; found = standing_nodes_are_found }
