-- How the numbers of lines shift.
use Rattle.std.proofs.Common.{◌≡◌, ℕ, ◌+◌, ◌<◌, ◌≤◌, false, nat_lt, nat_eq, arith}
use Rattle.std.proofs.lemmas.Bool.Decides.{nat_tests}
use Rattle.block_grid.specs.Changes.{shifted}

-- a number before a border that does not move
pub before_kept : (at by a n : ℕ) → a ≤ at → nat_lt (shifted at by n) a ≡ nat_lt n a
before_kept at by a n h = grind (arith, nat_tests)

-- the border where the lines come in is doubled
pub before_doubled : (at by a n : ℕ) → at ≤ a → a ≤ at + by → nat_lt (shifted at by n) a ≡ nat_lt n at
before_doubled at by a n h k = grind (arith, nat_tests)

-- a border that moves
pub before_moved : (at by a n : ℕ) → at ≤ a → nat_lt (shifted at by n) (a + by) ≡ nat_lt n a
before_moved at by a n h = grind (arith, nat_tests)

-- lines that stay, come in and move
pub on_kept : (at by a n : ℕ) → a < at → nat_eq (shifted at by n) a ≡ nat_eq n a
on_kept at by a n h = grind (arith, nat_tests)

pub on_new : (at by a n : ℕ) → at ≤ a → a < at + by → nat_eq (shifted at by n) a ≡ false
on_new at by a n h k = grind (arith, nat_tests)

pub on_moved : (at by a n : ℕ) → at ≤ a → nat_eq (shifted at by n) (a + by) ≡ nat_eq n a
on_moved at by a n h = grind (arith, nat_tests)

-- the same with the number of the border spelled out
pub before_later : (at by a b n : ℕ) → a ≡ b + by → at ≤ b → nat_lt (shifted at by n) a ≡ nat_lt n b
before_later at by a b n e h = rw e (before_moved at by b n h)

-- equal numbers shift to equal ones, and different ones to different ones
pub same_shifted : (at by m n : ℕ) → nat_eq (shifted at by m) (shifted at by n) ≡ nat_eq m n
same_shifted at by m n = grind (arith, nat_tests)
