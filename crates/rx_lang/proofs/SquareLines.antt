-- The bound of the sides of squares of all sizes.
use Rattle.std.proofs.Common.{◌≡◌, ℕ, zero, suc, ◌+◌, ◌-◌, ◌*◌, ◌^◌, ◌≤◌, ap, arith}
use Rattle.std.proofs.Math.Nat.{pow-suc}
use Rattle.rx_lang.specs.Squares.{side_bound}

large : (j : ℕ) → j + 1 ≤ 2 ^ j
large zero = omega arith
large (suc j) = omega (arith, large j, pow-suc 2 j)

pub four_squares : (j : ℕ) → side_bound (j + 1) ≡ 2 * side_bound j + 6 * (j + 1) + 3
four_squares j =
    let e : j + 1 ≡ suc j = omega arith in
    let f : 2 ^ (j + 1) ≡ 2 ^ suc j = ap (λ n. 2 ^ n) e in
    omega (arith, f, pow-suc 2 j, large j)
