-- Powers of four, up to the least one that is large enough.
use Rattle.std.proofs.Common.{◌≡◌, ◌⊎◌, ◌∙◌, ℕ, zero, suc, refl, ◌+◌, ◌*◌, ◌^◌, ◌<◌, ◌≤◌, inl, inr, sym, ap, subst, arith}
use Rattle.std.proofs.Math.Nat.{pow-suc, pow-le-pow_right}
use Rattle.std.proofs.lemmas.Bool.{cases_lt, cases_order}

pub four_more : (n : ℕ) → 4 ^ (n + 1) ≡ 4 ^ n * 4
four_more n = let e : n + 1 ≡ suc n = omega arith in ap (λ m. 4 ^ m) e ∙ pow-suc 4 n

pub low : (level room number : ℕ) → room ≡ 4 ^ level → level ≤ 7 → room < number → number ≤ 8192 → level < 7
low level room number e h lt few = by (cases_lt level 7)
  where
    by : (level < 7) ⊎ (7 ≤ level) → level < 7
    by (inl k) = k
    by (inr k) = let seven : level ≡ 7 = omega arith in let room7 : room ≡ 4 ^ 7 = e ∙ ap (λ n. 4 ^ n) seven in absurd (omega arith)

pub small_room : (level : ℕ) → level < 7 → 4 ^ level * 4 ≤ 16384
small_room level h = let le : 4 ^ level ≤ 4 ^ 6 = pow-le-pow_right {n = 4} (omega arith) {i = level} {j = 6} (omega arith) in omega arith

below_by : (level number : ℕ) → ((j : ℕ) → j < level → 4 ^ j < number) → 4 ^ level < number → (j : ℕ) → j < level + 1 → (j ≡ level) ⊎ ((j < level) ⊎ (level < j)) → 4 ^ j < number
below_by level number h here j lt (inl e) = subst (λ n. 4 ^ n < number) (sym e) here
below_by level number h here j lt (inr (inl less)) = h j less
below_by level number h here j lt (inr (inr more)) = absurd (omega arith)

pub below_more : (level number : ℕ) → ((j : ℕ) → j < level → 4 ^ j < number) → 4 ^ level < number → (j : ℕ) → j < level + 1 → 4 ^ j < number
below_more level number h here j lt = below_by level number h here j lt (cases_order j level)

pub four_pow : (j : ℕ) → 2 ^ (2 * j) ≡ 4 ^ j
four_pow zero = refl
four_pow (suc j) =
    let e : 2 * suc j ≡ suc (suc (2 * j)) = omega arith in
    let a : 2 ^ (2 * suc j) ≡ 2 ^ suc (suc (2 * j)) = ap (λ m. 2 ^ m) e in
    omega (arith, a, pow-suc 2 (suc (2 * j)), pow-suc 2 (2 * j), pow-suc 4 j, four_pow j)
