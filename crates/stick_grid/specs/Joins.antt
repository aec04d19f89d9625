-- Tilings made of others.
use Rattle.std.specs.Prelude.{◌≡◌, ℕ, ◌+◌, ◌-◌, ◌^◌, ◌<◌, ◌≤◌, nat_lt, if◌then◌else◌}
use Rattle.micro_tiles.specs.Table.{transpose_of}
use Rattle.stick_grid.specs.Tilings.{Tiling, tile_at, MeetsEast, MeetsSouth}

-- The second is the mirror image of the first over the diagonal from north-west to south-east.
pub record IsTransposed (tiling made : Tiling) : Type 0 where
  pub rows : made.rows ≡ tiling.cols
  pub cols : made.cols ≡ tiling.rows
  pub tiles : (row col : ℕ) → row < made.rows → col < made.cols → tile_at made row col ≡ transpose_of (tile_at tiling col row)

-- The east side of the first and the west side of the second are equal in length and port by port, and the two have at
-- most 2^20 columns together.
pub record MeetsRight (left right : Tiling) : Type 0 where
  pub rows : left.rows ≡ right.rows
  pub few : left.cols + right.cols ≤ 2 ^ 20
  pub ports : (row : ℕ) → row < left.rows → MeetsEast (tile_at left row (left.cols - 1)) (tile_at right row 0)

-- The south side of the first and the north side of the second are equal in length and port by port, and the two have at
-- most 2^20 rows together.
pub record MeetsBelow (upper lower : Tiling) : Type 0 where
  pub cols : upper.cols ≡ lower.cols
  pub few : upper.rows + lower.rows ≤ 2 ^ 20
  pub ports : (col : ℕ) → col < upper.cols → MeetsSouth (tile_at upper (upper.rows - 1) col) (tile_at lower 0 col)

-- the number of the tile in this row and column of two tilings side by side
abbrev pub tile_of_two : Tiling → Tiling → ℕ → ℕ → ℕ
tile_of_two left right row col = if nat_lt col left.cols then tile_at left row col else tile_at right row (col - left.cols)

-- The third is the first with the second to the east of it.
pub record IsBeside (left right made : Tiling) : Type 0 where
  pub rows : made.rows ≡ left.rows
  pub cols : made.cols ≡ left.cols + right.cols
  pub west : (row col : ℕ) → row < left.rows → col < left.cols → tile_at made row col ≡ tile_at left row col
  pub east : (row col : ℕ) → row < right.rows → col < right.cols → tile_at made row (left.cols + col) ≡ tile_at right row col

-- The third is the first with the second to the south of it.
pub record IsAbove (upper lower made : Tiling) : Type 0 where
  pub rows : made.rows ≡ upper.rows + lower.rows
  pub cols : made.cols ≡ upper.cols
  pub north : (row col : ℕ) → row < upper.rows → col < upper.cols → tile_at made row col ≡ tile_at upper row col
  pub south : (row col : ℕ) → row < lower.rows → col < lower.cols → tile_at made (upper.rows + row) col ≡ tile_at lower row col
