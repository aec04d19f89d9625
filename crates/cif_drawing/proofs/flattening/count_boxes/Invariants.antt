-- No code stands at the strokes so far, and this is the number of their boxes.
use Rattle.std.proofs.Common.{take}
use Rattle.cif_drawing.proofs.Counting.{Counted}
use Rattle.cif_drawing.proofs.flattening.count_boxes.Given as goal

abbrev pub invariant-loop-stroke : goal.invariant-loop-stroke
invariant-loop-stroke l = Counted l.symbols (take l.stroke-index l.strokes) l.count
