-- The columns of the corners so far.
use Rattle.std.proofs.Common.{◌-◌, length}
use Rattle.cif_shapes.proofs.Gathering.{HasGathered}
use Rattle.cif_shapes.proofs.changes.gather.Given as goal

abbrev pub invariant-loop-next : goal.invariant-loop-next
invariant-loop-next l = HasGathered l.corners l.fn.row l.next l.columns.items

abbrev pub decreases-loop-next : goal.decreases-loop-next
decreases-loop-next l = length l.corners - l.next
