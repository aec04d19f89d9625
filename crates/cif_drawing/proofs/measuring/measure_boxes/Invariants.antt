-- The measure of the boxes so far.
use Rattle.std.proofs.Common.{take}
use Rattle.cif_drawing.specs.Measures.{IsMeasure}
use Rattle.cif_drawing.proofs.measuring.measure_boxes.Given as goal

abbrev pub invariant-loop-b : goal.invariant-loop-b
invariant-loop-b l = IsMeasure 0 l.measure (take l.b-index l.boxes)
