-- The tiles so far are those of the two grids side by side.
use Rattle.std.proofs.Common.{◌≡◌}
use Rattle.stick_grid.specs.Joins.{tile_of_two}
use Rattle.stick_grid.proofs.Filled.{IsFilled}
use Rattle.stick_grid.proofs.grid.Grid.beside.Given as goal

abbrev pub invariant-loop-before : goal.invariant-loop-before
invariant-loop-before l = IsFilled l.cols l.before (λ row col tile. tile ≡ tile_of_two l.fn.self l.fn.right row col) l.tiles.items
