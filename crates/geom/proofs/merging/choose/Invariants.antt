-- The boxes so far are chosen.
use Rattle.std.proofs.Common.{take}
use Rattle.geom.specs.Wholes.{IsChosen}
use Rattle.geom.proofs.merging.choose.Given as goal

abbrev pub invariant-loop-b : goal.invariant-loop-b
invariant-loop-b l = IsChosen (take l.b-index l.boxes) l.layer l.chosen.items
