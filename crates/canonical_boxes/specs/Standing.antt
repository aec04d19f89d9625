-- The boxes that begin in a row.
use Rattle.std.specs.Prelude.{◌≡◌, ℤ, ◌<ℤ◌, Bool, ◌&&◌, ◌||◌, int_le, int_lt}
use Rattle.geom.specs.Squares.{BoxShape}

-- The box begins in the row, and has one of the columns from one up to another.
pub record BeginsAmong (b : BoxShape) (y from to : ℤ) : Type 0 where
  pub row : b.y1 ≡ y
  pub left : from <ℤ b.x2
  pub right : b.x1 <ℤ to

-- The box begins below the row, or in it and ends at or before the column.
abbrev pub is_passed : ℤ → ℤ → BoxShape → Bool
is_passed y x b = int_lt b.y1 y || (int_le b.y1 y && int_le b.x2 x)

-- The box begins below the row, or in it and before the column.
abbrev pub is_reached : ℤ → ℤ → BoxShape → Bool
is_reached y x b = int_lt b.y1 y || (int_le b.y1 y && int_lt b.x1 x)
