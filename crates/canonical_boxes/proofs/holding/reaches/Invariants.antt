-- The box is reached.
use Rattle.std.proofs.Common.{◌-◌, length}
use Rattle.canonical_boxes.proofs.Climbs.{IsReached}
use Rattle.canonical_boxes.proofs.holding.reaches.Given as goal

abbrev pub invariant-up : goal.invariant-up
invariant-up l = IsReached l.boxes l.area l.number

abbrev pub decreases-up : goal.decreases-up
decreases-up l = length l.boxes - l.number
