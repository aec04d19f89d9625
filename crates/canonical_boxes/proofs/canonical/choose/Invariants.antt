-- The boxes so far are chosen.
use Rattle.std.proofs.Common.{take}
use Rattle.canonical_boxes.specs.Chosen.{IsChosen}
use Rattle.canonical_boxes.proofs.canonical.choose.Given as goal

abbrev pub invariant-loop-b : goal.invariant-loop-b
invariant-loop-b l = IsChosen (take l.b-index l.boxes) l.layer l.chosen.items
