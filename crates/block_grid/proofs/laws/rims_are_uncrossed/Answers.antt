use Rattle.block_grid.proofs.Uncrossed.{north_rim, south_rim, west_rim, east_rim}
use Rattle.block_grid.proofs.laws.rims_are_uncrossed.Goals as goal

pub returns : goal.returns
returns c = record { north = north_rim; south = south_rim; west = west_rim; east = east_rim }
