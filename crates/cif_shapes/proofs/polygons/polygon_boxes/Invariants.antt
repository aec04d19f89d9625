-- The strips so far are drawn.
use Rattle.std.proofs.Common.{◌-◌}
use Rattle.cif_shapes.proofs.Strips.{IsSwept}
use Rattle.cif_shapes.proofs.polygons.polygon_boxes.Given as goal

abbrev pub invariant-loop-upper : goal.invariant-loop-upper
invariant-loop-upper l = IsSwept l.layer l.points l.heights.items l.corners.items (l.upper - 1) l.count l.columns.items l.boxes.items
