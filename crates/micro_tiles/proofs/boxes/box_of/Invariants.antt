-- What is left of the slots holds the box that is left to find.
use Rattle.std.proofs.Common.{◌≡◌, drop, slice_get}
use Rattle.micro_tiles.specs.Slots.{present}
use Rattle.micro_tiles.proofs.boxes.box_of.Given as goal

abbrev pub invariant-loop-slot : goal.invariant-loop-slot
invariant-loop-slot l = slice_get (present (drop l.slot-index l.slot-items)) l.left ≡ slice_get (present l.slot-items) l.index
