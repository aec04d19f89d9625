-- The last side was passed.
use Rattle.cif_shapes.proofs.PolygonSides.{ends_all}
use Rattle.cif_shapes.proofs.corners.side_ends.Goals as goal

pub returns : goal.returns
returns c = ends_all c.args.points.now c.loop-at.at c.loop-at.ends.items c.loop-at-test.false c.loop-at.invariant
