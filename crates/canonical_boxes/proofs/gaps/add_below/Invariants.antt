-- The columns from the end on are done.
use Rattle.std.proofs.Common.{◌-ℤ◌}
use Rattle.canonical_boxes.proofs.Skies.{IsWalked, room}
use Rattle.canonical_boxes.proofs.gaps.add_below.Given as goal

abbrev pub invariant-loop-end : goal.invariant-loop-end
invariant-loop-end l = IsWalked l.tops l.from l.to l.y l.end l.initial.free.items l.free.items

abbrev pub decreases-loop-end : goal.decreases-loop-end
decreases-loop-end l = room (l.end -ℤ l.from)
