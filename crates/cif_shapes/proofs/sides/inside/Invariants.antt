-- So many of the sides so far are met.
use Rattle.cif_shapes.proofs.PolygonSides.{HasMet}
use Rattle.cif_shapes.proofs.sides.inside.Given as goal

abbrev pub invariant-loop-at : goal.invariant-loop-at
invariant-loop-at l = HasMet l.points l.fn.x l.fn.y l.at l.met
