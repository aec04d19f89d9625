-- The tiles so far are those of the mirror image.
use Rattle.stick_grid.proofs.Filled.{IsFilled}
use Rattle.stick_grid.proofs.Turned.{Turned}
use Rattle.stick_grid.proofs.grid.Grid.transpose.Given as goal

abbrev pub invariant-loop-before : goal.invariant-loop-before
invariant-loop-before l = IsFilled l.cols l.before (Turned l.self) l.tiles.items
