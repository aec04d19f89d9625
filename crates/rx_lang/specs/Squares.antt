-- How large the layout of a tree may be.
use Rattle.std.specs.Prelude.{ℕ, ◌+◌, ◌-◌, ◌*◌, ◌^◌, ◌≤◌}

-- the most rows, and the most columns, of a square of 4^j blocks in which edges are drawn
abbrev pub side_bound : ℕ → ℕ
side_bound j = 16 * 2 ^ j - (6 * j + 15)

-- the least number k for which a square of 4^k blocks has room for m of them
pub record IsLevel (m k : ℕ) : Type 0 where
  pub enough : m ≤ 4 ^ k
  pub least : (j : ℕ) → m ≤ 4 ^ j → k ≤ j
