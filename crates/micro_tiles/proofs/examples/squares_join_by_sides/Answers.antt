use Rattle.micro_tiles.proofs.SmallDrawings as small
use Rattle.micro_tiles.proofs.examples.squares_join_by_sides.Goals as goal

pub returns-clause-corners : goal.returns-clause-corners
returns-clause-corners c = small.corners_part

pub returns-clause-sides : goal.returns-clause-sides
returns-clause-sides c = small.sides_join
