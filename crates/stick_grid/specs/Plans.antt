-- Plans of tiles, of any number of rows and columns, and the squares that they draw, in λ from the lower left corner. Row 0 is
-- the northernmost, column 0 the westernmost.
use Rattle.std.specs.Prelude.{ℕ, ◌+◌, ◌-◌, ◌*◌, ◌<◌, ℤ, pos, ◌-ℤ◌}
use Rattle.geom.specs.declared.layer.Layer.{Layer}
use Rattle.geom.specs.Squares.{Covered}
use Rattle.micro_tiles.specs.Table.{tile_count}
use Rattle.micro_tiles.specs.Table.{boxes}
use Rattle.stick_grid.specs.Tilings.{Tiling, tile_at, MeetsEast, MeetsSouth}

-- the number of the tile in each row and column
pub record Plan : Type 0 where
  pub rows : ℕ
  pub cols : ℕ
  pub tile : ℕ → ℕ → ℕ

-- All tiles are in the table, and neighbours carry the same on their common side.
pub record IsPlan (plan : Plan) : Type 0 where
  pub known : (row col : ℕ) → row < plan.rows → col < plan.cols → plan.tile row col < tile_count
  pub eastward : (row col : ℕ) → row < plan.rows → col + 1 < plan.cols → MeetsEast (plan.tile row col) (plan.tile row (col + 1))
  pub southward : (row col : ℕ) → row + 1 < plan.rows → col < plan.cols → MeetsSouth (plan.tile row col) (plan.tile (row + 1) col)

-- the plan of a tiling
abbrev pub plan_of : Tiling → Plan
plan_of tiling = record { rows = tiling.rows; cols = tiling.cols; tile = tile_at tiling }

-- where a square lies in the tile of this column, or of this row
abbrev pub local_x : ℕ → ℤ → ℤ
local_x col x = x -ℤ pos (14 * col)

abbrev pub local_y : Plan → ℕ → ℤ → ℤ
local_y plan row y = y -ℤ pos (14 * (plan.rows - 1 - row))

-- Some tile covers the square.
pub record Covers (plan : Plan) (layer : Layer) (x y : ℤ) : Type 0 where
  pub row : ℕ
  pub col : ℕ
  pub is_row : row < plan.rows
  pub is_col : col < plan.cols
  pub covered : Covered (boxes (plan.tile row col)) layer (local_x col x) (local_y plan row y)
