-- These are the ends of the sides so far.
use Rattle.cif_shapes.proofs.PolygonSides.{HasEnds}
use Rattle.cif_shapes.proofs.corners.side_ends.Given as goal

abbrev pub invariant-loop-at : goal.invariant-loop-at
invariant-loop-at l = HasEnds l.points l.at l.ends.items
