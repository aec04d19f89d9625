-- Runs of digits and of blanks, and their numbers.
use Rattle.std.specs.Prelude.{◌≡◌, ℕ, ◌+◌, ◌*◌, ◌^◌, ◌≤◌, ◌<◌, List, drop}
use Rattle.std.specs.List.{prefix_len}
use Rattle.rx_text.specs.NumberInText.{is_digit}
use Rattle.geom.specs.CifCommands.{is_cif_blank}

-- the place behind the blanks that stand here
abbrev pub behind_blanks : List ℕ → ℕ → ℕ
behind_blanks text at = at + prefix_len is_cif_blank (drop at text)

-- the place behind the digits that stand here
abbrev pub behind_digits : List ℕ → ℕ → ℕ
behind_digits text at = at + prefix_len is_digit (drop at text)

-- The second number stands for the first, by this divisor.
pub record Counts (divisor n v : ℕ) : Type 0 where
  pub exact : n ≤ 2 ^ 40 → v ≡ n
  pub great : 2 ^ 40 < n → 2 ^ 40 < v
  pub alike : (j : ℕ) × (k : ℕ) × (n + divisor * j ≡ v + divisor * k)
  pub near : v ≤ 2 ^ 52
