use Rattle.micro_tiles.proofs.StripFacts as facts
use Rattle.micro_tiles.proofs.laws.tiles_have_strips.Goals as goal

pub returns-clause-strips : goal.returns-clause-strips
returns-clause-strips c = facts.tiles_have_strips

pub returns-clause-ports : goal.returns-clause-ports
returns-clause-ports c = facts.ports_lead_out_is
