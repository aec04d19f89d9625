use Rattle.micro_tiles.proofs.Mirrors.{transposes_are_mirrored}
use Rattle.micro_tiles.proofs.laws.transposes_are_mirrored.Goals as goal

pub returns : goal.returns
returns c = transposes_are_mirrored
