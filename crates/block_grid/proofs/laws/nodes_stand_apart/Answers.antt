use Rattle.block_grid.specs.Sheets.{IsOnSheet}
use Rattle.block_grid.proofs.Inside.{at_node}
use Rattle.block_grid.proofs.Nodes.{stand_apart}
use Rattle.block_grid.proofs.laws.nodes_stand_apart.Goals as goal

pub returns : goal.returns
returns c = record { inside = λ s sheet v p e. at_node (IsOnSheet s) s.nodes v p sheet.nodes_inside e; apart = stand_apart }
