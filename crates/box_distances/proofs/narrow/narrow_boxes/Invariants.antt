-- The narrow boxes so far.
use Rattle.std.proofs.Common.{pos, take}
use Rattle.box_distances.specs.Narrow.{AreNarrow}
use Rattle.box_distances.proofs.narrow.narrow_boxes.Given as goal

abbrev pub invariant-loop-b : goal.invariant-loop-b
invariant-loop-b l = AreNarrow (pos l.side) (take l.b-index l.boxes) l.narrow.items
