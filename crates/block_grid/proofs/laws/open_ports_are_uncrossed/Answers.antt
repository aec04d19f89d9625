use Rattle.block_grid.proofs.Uncrossed.{east_open, south_open, north_open}
use Rattle.block_grid.proofs.laws.open_ports_are_uncrossed.Goals as goal

pub returns : goal.returns
returns c = record { east = east_open; south = south_open; north = north_open }
