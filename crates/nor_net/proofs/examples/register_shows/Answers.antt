use Rattle.nor_net.proofs.ExampleRegister.{is_netlist, shows}
use Rattle.nor_net.proofs.examples.register_shows.Goals as goal

pub returns-clause-netlist : goal.returns-clause-netlist
returns-clause-netlist c = is_netlist

pub returns-clause-shows : goal.returns-clause-shows
returns-clause-shows c = shows
