-- Numbers of which one is such.
use Rattle.std.proofs.Common.{◌⊎◌, inl, inr, ◌^◌, ℤ, pos, neg_ℤ, ◌≤ℤ◌, List, [], ◌∷◌, ◌++◌, arith}
use Rattle.std.proofs.lemmas.Int.{ints, by_lt_z}
use Rattle.geom.specs.CifCodes.{SomeIs, IsTooGreat}

pub some_push : (P : ℤ → Type 0) (zs : List ℤ) (z : ℤ) → SomeIs P (zs ++ z ∷ []) → SomeIs P zs ⊎ P z
some_push P [] z (inl h) = inr h
some_push P [] z (inr h) = absurd h
some_push P (y ∷ ys) z (inl h) = inl (inl h)
some_push P (y ∷ ys) z (inr h) = elim (some_push P ys z h) [ inl k ↦ inl (inr k) | inr k ↦ inr k ]

pub some_before : (P : ℤ → Type 0) (zs : List ℤ) (z : ℤ) → SomeIs P zs → SomeIs P (zs ++ z ∷ [])
some_before P [] z h = absurd h
some_before P (y ∷ ys) z (inl h) = inl h
some_before P (y ∷ ys) z (inr h) = inr (some_before P ys z h)

pub some_last : (P : ℤ → Type 0) (zs : List ℤ) (z : ℤ) → P z → SomeIs P (zs ++ z ∷ [])
some_last P [] z h = inl h
some_last P (y ∷ ys) z h = inr (some_last P ys z h)

-- a number is too great, or it is not
pub great_or_not : (z : ℤ) → IsTooGreat z ⊎ (IsTooGreat z → ⊥)
great_or_not z =
    by_lt_z (pos (2 ^ 40)) z (λ above. inl (inl above))
    (λ most. by_lt_z z (neg_ℤ (pos (2 ^ 40))) (λ below. inl (inr below)) (λ least. inr (λ h. neither z most least h)))
  where
    neither : (z : ℤ) → z ≤ℤ pos (2 ^ 40) → neg_ℤ (pos (2 ^ 40)) ≤ℤ z → IsTooGreat z → ⊥
    neither z most least (inl h) = omega (arith, ints, most, h)
    neither z most least (inr h) = omega (arith, ints, least, h)

pub some_great_or_not : (zs : List ℤ) → SomeIs IsTooGreat zs ⊎ (SomeIs IsTooGreat zs → ⊥)
some_great_or_not [] = inr (λ h. h)
some_great_or_not (z ∷ zs) = by (great_or_not z) (some_great_or_not zs)
  where
    by : IsTooGreat z ⊎ (IsTooGreat z → ⊥) → SomeIs IsTooGreat zs ⊎ (SomeIs IsTooGreat zs → ⊥)
        → SomeIs IsTooGreat (z ∷ zs) ⊎ (SomeIs IsTooGreat (z ∷ zs) → ⊥)
    by (inl h) k = inl (inl h)
    by (inr h) (inl k) = inl (inr k)
    by (inr h) (inr k) = inr (λ s. elim s [ inl a ↦ h a | inr b ↦ k b ])
