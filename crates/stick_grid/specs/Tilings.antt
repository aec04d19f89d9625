-- Rows and columns of tiles. Row 0 is the northernmost, column 0 the westernmost.
use Rattle.std.specs.Prelude.{◌≡◌, ℕ, ◌+◌, ◌*◌, ◌^◌, ◌<◌, ◌≤◌, List, length, get_or}
use Rattle.micro_tiles.specs.declared.side.Side.TheVariants.{North, East, South, West}
use Rattle.micro_tiles.specs.Table.{tile_count}
use Rattle.micro_tiles.specs.Table.{port_at}

-- how many rows and columns there are, and the numbers of the tiles, row by row
pub record Tiling : Type 0 where
  pub rows : ℕ
  pub cols : ℕ
  pub tiles : List ℕ

-- the number of the tile in this row and column
abbrev pub tile_at : Tiling → ℕ → ℕ → ℕ
tile_at tiling row col = get_or tiling.tiles (row * tiling.cols + col) 0

-- The two tiles, one to the west of the other, carry the same on their common side.
abbrev pub MeetsEast : ℕ → ℕ → Type 0
MeetsEast west east = port_at west East ≡ port_at east West

-- The two tiles, one to the north of the other, carry the same on their common side.
abbrev pub MeetsSouth : ℕ → ℕ → Type 0
MeetsSouth north south = port_at north South ≡ port_at south North

-- There are from 1 to 2^20 rows and columns and a tile of the table for each place, and neighbouring tiles carry the same on
-- their common side.
pub record IsTiling (tiling : Tiling) : Type 0 where
  pub some_row : 1 ≤ tiling.rows
  pub few_rows : tiling.rows ≤ 2 ^ 20
  pub some_col : 1 ≤ tiling.cols
  pub few_cols : tiling.cols ≤ 2 ^ 20
  pub size : length tiling.tiles ≡ tiling.rows * tiling.cols
  pub known : (row col : ℕ) → row < tiling.rows → col < tiling.cols → tile_at tiling row col < tile_count
  pub eastward : (row col : ℕ) → row < tiling.rows → col + 1 < tiling.cols → MeetsEast (tile_at tiling row col) (tile_at tiling row (col + 1))
  pub southward : (row col : ℕ) → row + 1 < tiling.rows → col < tiling.cols → MeetsSouth (tile_at tiling row col) (tile_at tiling (row + 1) col)
