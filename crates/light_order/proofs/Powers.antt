-- Powers of two.
use Rattle.std.proofs.Common.{◌≡◌, ◌⊎◌, ℕ, zero, suc, ◌+◌, ◌*◌, ◌<◌, ◌≤◌, ◌^◌, refl, ap, inl, inr, arith}
use Rattle.std.proofs.Math.Nat.{pow-suc}
use Rattle.std.proofs.Math.Pow.{pow_mono}
use Rattle.std.proofs.lemmas.Bool.{cases_lt}

pub twice : (n : ℕ) → 2 ^ (n + 1) ≡ 2 * 2 ^ n
twice n = let e : n + 1 ≡ suc n = omega arith in let a : 2 ^ (n + 1) ≡ 2 ^ suc n = ap (λ m. 2 ^ m) e in omega (arith, a, pow-suc 2 n)

four_pow : (j : ℕ) → 4 ^ j ≡ 2 ^ (2 * j)
four_pow zero = refl
four_pow (suc j) =
    let e : 2 * suc j ≡ suc (suc (2 * j)) = omega arith in
    let a : 2 ^ (2 * suc j) ≡ 2 ^ suc (suc (2 * j)) = ap (λ m. 2 ^ m) e in
    omega (arith, a, pow-suc 2 (suc (2 * j)), pow-suc 2 (2 * j), pow-suc 4 j, four_pow j)

below_by : (s j : ℕ) → 2 ^ s < 4 ^ j → (s < 2 * j) ⊎ (2 * j ≤ s) → s < 2 * j
below_by s j h (inl lt) = lt
below_by s j h (inr ge) = absurd (omega (arith, four_pow j, pow_mono ge))

pub below : (s j : ℕ) → 2 ^ s < 4 ^ j → s < 2 * j
below s j h = below_by s j h (cases_lt s (2 * j))
