use Rattle.micro_tiles.proofs.SmallDrawings as small
use Rattle.micro_tiles.proofs.examples.layers_join_under_cuts.Goals as goal

pub returns-clause-crossings : goal.returns-clause-crossings
returns-clause-crossings c = small.crossings_part

pub returns-clause-cuts : goal.returns-clause-cuts
returns-clause-cuts c = small.cuts_join

pub returns-clause-channels : goal.returns-clause-channels
returns-clause-channels c = small.channels_part
