use Rattle.std.proofs.Common.{ℕ, ◌<◌, ◌-◌}
use Rattle.stick_grid.specs.Tilings.{tile_at, MeetsEast}
use Rattle.tile_tests.proofs.laid.meets_right.Given as goal

abbrev pub invariant-loop-row : goal.invariant-loop-row
invariant-loop-row l = (row : ℕ) → row < l.row → MeetsEast (tile_at l.left row (l.left.cols - 1)) (tile_at l.right row 0)
