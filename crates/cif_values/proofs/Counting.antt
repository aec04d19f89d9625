-- Numbers that stand for others, digit by digit.
use Rattle.std.proofs.Common.{◌≡◌, ℕ, ◌+◌, ◌*◌, ◌/◌, ◌%◌, ◌^◌, ◌<◌, ◌≤◌, inl, inr, refl, arith}
use Rattle.std.proofs.lemmas.Bool.{cases_lt}
use Rattle.cif_values.specs.Runs.{Counts}

pub counts_none : (divisor : ℕ) → Counts divisor 0 0
counts_none divisor = record { exact = λ h. refl; great = λ h. absurd (omega arith); alike = (0, 0, refl); near = omega arith }

-- the number with a digit more, where it is not too great
pub counts_more : (divisor n v d : ℕ) → v * 10 + d ≤ 2 ^ 52 → Counts divisor n v → Counts divisor (n * 10 + d) (10 * v + d)
counts_more divisor n v d few h = record {
  exact = λ s. (let e : v ≡ n = h.exact (omega arith) in omega (arith, e));
  great = λ s. by s;
  alike = (10 * h.alike.0, 10 * h.alike.1, omega (arith, h.alike.2));
  near = omega (arith, few);
}
  where
    by : 2 ^ 40 < n * 10 + d → 2 ^ 40 < 10 * v + d
    by s = elim (cases_lt (2 ^ 40) n) [ inl g ↦ omega (arith, h.great g) | inr l ↦ omega (arith, h.exact l, s) ]

-- the same, where only its remainder is kept
pub counts_rest : (divisor n v d : ℕ) → 0 < divisor → divisor ≤ 400 * 2 ^ 40 → 2 ^ 52 < 10 * v + d → Counts divisor n v
    → Counts divisor (n * 10 + d) ((10 * v + d) % divisor + divisor * (2 ^ 40 / divisor + 1))
counts_rest divisor n v d some few large h = rest divisor n v d (10 * v + d) ((10 * v + d) / divisor) ((10 * v + d) % divisor) (2 ^ 40 / divisor) (2 ^ 40 % divisor) refl (omega (arith, some)) (omega (arith, some)) (omega (arith, some)) (omega (arith, some)) few large h
  where
    rest : (m n v d raw q r c s : ℕ) → raw ≡ 10 * v + d → m * q + r ≡ raw → r < m → m * c + s ≡ 2 ^ 40 → s < m → m ≤ 400 * 2 ^ 40 → 2 ^ 52 < raw
        → Counts m n v → Counts m (n * 10 + d) (r + m * (c + 1))
    rest m n v d raw q r c s e f g i j few large h = record {
      exact = λ t. absurd (let k : v ≡ n = h.exact (omega arith) in omega (arith, k, e, large, t));
      great = λ t. omega (arith, i, j);
      alike = (10 * h.alike.0 + (c + 1), 10 * h.alike.1 + q, omega (arith, h.alike.2, e, f));
      near = omega (arith, g, i, few);
    }
