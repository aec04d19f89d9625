use Rattle.micro_tiles.proofs.ShapeFacts as facts
use Rattle.micro_tiles.proofs.laws.tiles_keep_inside.Goals as goal

pub returns : goal.returns
returns c = facts.tiles_keep_inside
