use Rattle.micro_tiles.proofs.OneShape.{tiles_have_one_shape}
use Rattle.micro_tiles.proofs.ShapeFacts.{poly_avoids_diffusion}
use Rattle.micro_tiles.proofs.laws.tiles_have_one_shape.Goals as goal

pub returns-clause-shapes : goal.returns-clause-shapes
returns-clause-shapes c = tiles_have_one_shape

pub returns-clause-apart : goal.returns-clause-apart
returns-clause-apart c = poly_avoids_diffusion
