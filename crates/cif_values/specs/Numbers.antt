-- Numbers that stand for written ones, which may be of any length.
use Rattle.std.specs.Prelude.{◌≡◌, ℕ, ◌*◌, ◌^◌, ◌≤◌, ℤ, pos, ◌+ℤ◌}
use Rattle.std.specs.Int.RustNames.{unsigned_abs}
use Rattle.geom.specs.CifCodes.{IsTooGreat}

-- They leave the same remainder by the divisor.
abbrev pub AreAlike : ℕ → ℤ → ℤ → Type 0
AreAlike divisor z v = (j : ℕ) × (k : ℕ) × (z +ℤ pos (divisor * j) ≡ v +ℤ pos (divisor * k))

-- The second number stands for the first: it is the same within 2^40 of 0; else it is farther from 0 as well, and leaves the same
-- remainder by the divisor.
pub record StandsFor (divisor : ℕ) (z v : ℤ) : Type 0 where
  pub exact : (IsTooGreat z → ⊥) → v ≡ z
  pub great : IsTooGreat z → IsTooGreat v
  pub alike : AreAlike divisor z v
  pub near : unsigned_abs v ≤ 2 ^ 52
