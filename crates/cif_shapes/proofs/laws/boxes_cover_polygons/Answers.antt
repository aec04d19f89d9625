-- Rows between two heights have the same squares.
use Rattle.cif_shapes.proofs.Covering.{covered}
use Rattle.cif_shapes.proofs.laws.boxes_cover_polygons.Goals as goal

pub returns : goal.returns
returns c = covered
