-- Names tell which nets of tiles are joined.
use Rattle.stick_grid.proofs.Named as named
use Rattle.stick_grid.proofs.laws.names_are_nets.Goals as goal

pub returns-clause-paths : goal.returns-clause-paths
returns-clause-paths c = named.plans_have_paths

pub returns-clause-nets : goal.returns-clause-nets
returns-clause-nets c = named.names_are_nets
