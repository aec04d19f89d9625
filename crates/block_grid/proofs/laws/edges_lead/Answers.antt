use Rattle.block_grid.proofs.EdgeEnds.{edges_have_ends}
use Rattle.block_grid.proofs.Leading as leading
use Rattle.block_grid.proofs.laws.edges_lead.Goals as goal

pub returns : goal.returns
returns c = record { ends = edges_have_ends; lead = leading.edges_lead }
