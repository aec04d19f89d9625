-- The lines of a square from those of the four squares that it is made of.
use Rattle.std.proofs.Common.{◌≡◌, ℕ, zero, suc, ◌+◌, ◌*◌, ◌^◌, refl, arith}
use Rattle.std.proofs.Math.Nat.{pow-suc}
use Rattle.rx_lang.specs.Squares.{side_bound}

-- at most 6j edges run between the four squares, at most three of them to light children, which take one row more
abbrev pub most_lines : ℕ → ℕ
most_lines zero = 1
most_lines (suc j) = 2 * most_lines j + 6 * (j + 1) + 3

pub lines_are : (j : ℕ) → most_lines j + 6 * j + 15 ≡ 16 * 2 ^ j
lines_are zero = refl
lines_are (suc j) = omega (arith, lines_are j, pow-suc 2 j)

pub most_is : (j : ℕ) → most_lines j ≡ side_bound j
most_is j = omega (arith, lines_are j)
