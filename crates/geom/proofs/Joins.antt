-- Joins lead both ways, and paths of joins go on one after another.
use Rattle.std.proofs.Common.{ℤ, inl, inr, sym}
use Rattle.geom.specs.Conduction.{IsNext, ShareSide, Drawing, Spot, IsJoin, Joined}
use Rattle.geom.specs.Conduction.Joined.{here, step}

next_back : (a b : ℤ) → IsNext a b → IsNext b a
next_back a b h = elim h [ inl e ↦ inr e | inr e ↦ inl e ]

pub share_back : (x y u v : ℤ) → ShareSide x y u v → ShareSide u v x y
share_back x y u v h = elim h [ inl up ↦ inl (sym up.0, next_back y v up.1) | inr along ↦ inr (sym along.0, next_back x u along.1) ]

pub join_back : (Drawn : Drawing) (a b : Spot) → IsJoin Drawn a b → IsJoin Drawn b a
join_back Drawn a b join = elim join [
  | inl within ↦ inl (sym within.0, share_back a.x a.y b.x b.y within.1)
  | inr under ↦ inr (sym under.0, sym under.1, rw (← under.0, ← under.1) under.2)
]

-- a path and another from its end
pub chain : (Drawn : Drawing) (a b c : Spot) → Joined Drawn a b → Joined Drawn b c → Joined Drawn a c
chain Drawn _ _ c (here a) q = q
chain Drawn _ _ c (step a m b join conducts rest) q = step a m c join conducts (chain Drawn m b c rest q)
