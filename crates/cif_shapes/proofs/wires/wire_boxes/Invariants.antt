-- The boxes of the segments so far.
use Rattle.std.proofs.Common.{◌-◌}
use Rattle.cif_shapes.proofs.WireSegments.{HasBoxes}
use Rattle.cif_shapes.proofs.wires.wire_boxes.Given as goal

abbrev pub invariant-loop-at : goal.invariant-loop-at
invariant-loop-at l = HasBoxes l.layer l.fn.width l.points (l.at - 1) l.boxes.items
