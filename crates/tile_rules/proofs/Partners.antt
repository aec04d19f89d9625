-- Squares of two sets that are near each other.
use Rattle.std.proofs.Common.{ℕ, ◌≤◌, ℤ, inl, inr, arith}
use Rattle.std.proofs.lemmas.Int.{ints}
use Rattle.geom.specs.Rows.{Squares}
use Rattle.lambda_rules.specs.Classes.{IsNear, AreWithin, IsPartner}

near_three : (s : ℕ) (a b : ℤ) → s ≤ 3 → IsNear s a b → IsNear 3 a b
near_three s a b few n = let p = n.first in let q = n.second in record { first = omega (arith, ints); second = omega (arith, ints) }

within_three : (s : ℕ) (x y u v : ℤ) → s ≤ 3 → AreWithin s x y u v → AreWithin 3 x y u v
within_three s x y u v few w = record { across = near_three s x u few w.across; upward = near_three s y v few w.upward }

pub turned : (s : ℕ) (x y u v : ℤ) → AreWithin s x y u v → AreWithin s u v x y
turned s x y u v w = record {
  across = record { first = w.across.second; second = w.across.first };
  upward = record { first = w.upward.second; second = w.upward.first };
}

-- Where no square of the one is within 3 of a square of the other, no square of either has a partner within less.
pub no_partner : (s : ℕ) (S T : Squares) → s ≤ 3 → ((x y u v : ℤ) → S x y → T u v → AreWithin 3 x y u v → ⊥) → (x y : ℤ) → IsPartner s S T x y → ⊥
no_partner s S T few apart x y (inl p) = apart x y p.u p.v p.inside p.partner (within_three s x y p.u p.v few p.within)
no_partner s S T few apart x y (inr p) = apart p.u p.v x y p.partner p.inside (within_three s p.u p.v x y few (turned s x y p.u p.v p.within))
