-- The boxes counted and those of the slots that are left are all.
use Rattle.std.proofs.Common.{◌≡◌, ◌+◌, ◌≤◌, drop, length}
use Rattle.micro_tiles.specs.Slots.{present}
use Rattle.micro_tiles.proofs.boxes.box_count.Given as goal

abbrev pub invariant-loop-slot : goal.invariant-loop-slot
invariant-loop-slot l = record {
  counted : l.count + length (present (drop l.slot-index l.slot-items)) ≡ length (present l.slot-items);
  few : l.count ≤ l.slot-index;
}
