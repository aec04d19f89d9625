-- Blanks stand so far.
use Rattle.std.proofs.Common.{◌-◌, length}
use Rattle.cif_syntax.proofs.Sorting.{Skipped}
use Rattle.cif_syntax.proofs.next.skip_blanks.Given as goal

abbrev pub invariant-loop-at : goal.invariant-loop-at
invariant-loop-at l = Skipped l.text l.from l.at

abbrev pub decreases-loop-at : goal.decreases-loop-at
decreases-loop-at l = length l.text - l.at
