-- The line and the column are known so far.
use Rattle.std.proofs.Common.{◌≤◌, ◌-◌}
use Rattle.cif_read.specs.Marks.{IsMark}
use Rattle.cif_read.proofs.mark.Mark.forward.Given as goal

abbrev pub invariant-loop-mark : goal.invariant-loop-mark
invariant-loop-mark l = IsMark l.text l.mark × (l.mark.at ≤ l.fn.to)

abbrev pub decreases-loop-mark : goal.decreases-loop-mark
decreases-loop-mark l = l.fn.to - l.mark.at
