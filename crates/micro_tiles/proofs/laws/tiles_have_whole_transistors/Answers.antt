use Rattle.micro_tiles.proofs.RegionFacts as facts
use Rattle.micro_tiles.proofs.laws.tiles_have_whole_transistors.Goals as goal

pub returns-clause-whole : goal.returns-clause-whole
returns-clause-whole c = facts.transistors_are_whole

pub returns-clause-channels : goal.returns-clause-channels
returns-clause-channels c = facts.channels_are_transistors
