use Rattle.std.proofs.Common.{ℕ, ◌<◌, ◌-◌}
use Rattle.stick_grid.specs.Tilings.{tile_at, MeetsSouth}
use Rattle.tile_tests.proofs.laid.meets_below.Given as goal

abbrev pub invariant-loop-col : goal.invariant-loop-col
invariant-loop-col l = (col : ℕ) → col < l.col → MeetsSouth (tile_at l.upper (l.upper.rows - 1) col) (tile_at l.lower 0 col)
