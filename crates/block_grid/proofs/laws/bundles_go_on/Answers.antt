use Rattle.block_grid.proofs.GoneOn.{bundles_go_on}
use Rattle.block_grid.proofs.PortEdges.{bundles_end_at_ports}
use Rattle.block_grid.proofs.laws.bundles_go_on.Goals as goal

pub returns : goal.returns
returns c = record { on = bundles_go_on; ports = bundles_end_at_ports }
