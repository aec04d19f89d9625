-- Where nodes stand by their numbers to base 4: a square is cut into quarters, these into quarters again, and so on.
use Rattle.std.specs.Prelude.{◌≡◌, ℕ, ◌+◌, ◌*◌, ◌^◌, ◌<◌, ◌≤◌}
use Rattle.block_grid.specs.Lines.{BlockPlace, row_of, col_of}

-- the number with these digits to base 4: those of z above place j, a at it, and those of t below it
abbrev pub with_digit : ℕ → ℕ → ℕ → ℕ → ℕ
with_digit j z a t = (4 * z + a) * 4 ^ j + t

-- Two numbers below `count` that differ at place j and not above it: the first has the digit a there, the second the greater digit b.
pub record DifferAt (count j z a b t u : ℕ) : Type 0 where
  pub first_below : t < 4 ^ j
  pub second_below : u < 4 ^ j
  pub less : a < b
  pub digit : b < 4
  pub inside : with_digit j z b u < count

-- The places of the numbers below `count` keep the quarters. Where the digits are in different halves, the first place is north of
-- the second, and else it is west of it. Of four numbers that differ in the last digit alone the places stand in two rows and two columns.
pub record KeepQuarters (place : ℕ → BlockPlace) (count : ℕ) : Type 0 where
  pub north : (j z a b t u : ℕ) → DifferAt count j z a b t u → a ≤ 1 → 2 ≤ b
      → row_of (place (with_digit j z a t)) < row_of (place (with_digit j z b u))
  pub west : (j z a b t u : ℕ) → DifferAt count j z a b t u → (a ≤ 1 → b ≤ 1)
      → col_of (place (with_digit j z a t)) < col_of (place (with_digit j z b u))
  pub upper_row : (z : ℕ) → 4 * z + 1 < count → row_of (place (4 * z)) ≡ row_of (place (4 * z + 1))
  pub lower_row : (z : ℕ) → 4 * z + 3 < count → row_of (place (4 * z + 2)) ≡ row_of (place (4 * z + 3))
  pub left_col : (z : ℕ) → 4 * z + 2 < count → col_of (place (4 * z)) ≡ col_of (place (4 * z + 2))
  pub right_col : (z : ℕ) → 4 * z + 3 < count → col_of (place (4 * z + 1)) ≡ col_of (place (4 * z + 3))
