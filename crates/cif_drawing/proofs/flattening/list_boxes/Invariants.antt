-- The boxes of the strokes so far.
use Rattle.std.proofs.Common.{◌≡◌, take}
use Rattle.geom.specs.CifRefusals.{stroke_boxes}
use Rattle.cif_drawing.specs.Inks.{strokes_of}
use Rattle.cif_drawing.proofs.flattening.list_boxes.Given as goal

abbrev pub invariant-loop-stroke : goal.invariant-loop-stroke
invariant-loop-stroke l = l.boxes.items ≡ stroke_boxes (strokes_of l.symbols (take l.stroke-index l.strokes))
