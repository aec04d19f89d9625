use Rattle.micro_tiles.proofs.NetFacts.{numbers_are_nets}
use Rattle.micro_tiles.proofs.PortFacts.{ports_name_nets}
use Rattle.micro_tiles.proofs.SideFacts.{nets_reach_sides}
use Rattle.micro_tiles.proofs.laws.numbers_are_nets.Goals as goal

pub returns-clause-nets : goal.returns-clause-nets
returns-clause-nets c = numbers_are_nets

pub returns-clause-ports : goal.returns-clause-ports
returns-clause-ports c = ports_name_nets

pub returns-clause-sides : goal.returns-clause-sides
returns-clause-sides c = nets_reach_sides
