-- Plans of wires are modules.
use Rattle.wiring.proofs.WiringModules as modules
use Rattle.wiring.proofs.laws.wirings_are_modules.Goals as goal

pub returns : goal.returns
returns c = modules.wirings_are_modules c.names_are_nets.ensures.paths
