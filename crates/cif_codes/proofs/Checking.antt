-- Checks with one number or distance more.
use Rattle.std.proofs.Common.{◌≡◌, ◌⊎◌, inl, inr, ℕ, ◌*◌, ◌^◌, ◌<◌, ◌≤◌, Bool, true, false, ◌||◌, ℤ, pos, ◌+ℤ◌, ◌*ℤ◌, List, [], ◌∷◌, ◌++◌, sym, ◌∙◌, ap, subst, arith}
use Rattle.std.specs.Bool.{Decides}
use Rattle.std.proofs.lemmas.Bool.{or_cases, or_left, or_right}
use mir.Syntax.{w64}
use mir.Val.{to_z, of_z}
use Rattle.std.specs.Int.RustNames.{unsigned_abs}
use Rattle.std.proofs.lemmas.Int.{ints, to_z-of_z, fits_signed_from_abs, unsigned_abs-mul}
use Rattle.geom.specs.CifCommands.{CifScale}
use Rattle.geom.specs.CifCodes.{SomeIs, IsOffGrid, IsFarOff, IsTooGreat}
use Rattle.cif_values.specs.Numbers.{AreAlike, StandsFor}
use Rattle.cif_codes.specs.declared.checks.Checks.{Checks}
use Rattle.cif_codes.specs.Checks.{Checked}
use Rattle.cif_codes.proofs.Some.{some_push, some_before, some_last, great_or_not, some_great_or_not}
use Rattle.cif_codes.proofs.Remainders.{alike_back, off_alike}

pub checked_none : (scale : CifScale) → Checked scale [] [] (record { off = false; far = false })
checked_none scale = record {
  off = (λ e. absurd cc, λ h. absurd h);
  far = (λ e. absurd cc, λ h. elim h [ inl a ↦ absurd a | inr b ↦ absurd b ]);
}

pub great_back : (m : ℕ) (z v : ℤ) → StandsFor m z v → IsTooGreat v → IsTooGreat z
great_back m z v s g =
    elim (great_or_not z) [ inl h ↦ h | inr h ↦ absurd (let e : v ≡ z = s.exact h in let P : ℤ → Type 0 = λ n. IsTooGreat n in h (subst P e g)) ]

-- a number more
pub checked_number : (scale : CifScale) (m : ℕ) (numbers distances : List ℤ) (c : Checks) (z v : ℤ) (great : Bool) → Decides great (IsTooGreat v)
    → Checked scale numbers distances c → StandsFor m z v → Checked scale (numbers ++ z ∷ []) distances (record { off = c.off; far = c.far || great })
checked_number scale m numbers distances c z v great d h s = record { off = h.off; far = (λ e. to (or_cases c.far great e), λ k. from k) }
  where
    to : (c.far ≡ true) ⊎ (great ≡ true) → SomeIs IsTooGreat (numbers ++ z ∷ []) ⊎ SomeIs (IsFarOff scale) distances
    to (inl e) = elim (h.far.0 e) [ inl a ↦ inl (some_before IsTooGreat numbers z a) | inr b ↦ inr b ]
    to (inr e) = inl (some_last IsTooGreat numbers z (great_back m z v s (d.0 e)))

    last : SomeIs IsTooGreat numbers ⊎ IsTooGreat z → (c.far || great) ≡ true
    last (inl a) = or_left c.far great (h.far.1 (inl a))
    last (inr a) = or_right c.far great (d.1 (s.great a))

    from : SomeIs IsTooGreat (numbers ++ z ∷ []) ⊎ SomeIs (IsFarOff scale) distances → (c.far || great) ≡ true
    from (inl a) = last (some_push IsTooGreat numbers z a)
    from (inr b) = or_left c.far great (h.far.1 (inr b))

-- a distance more
pub checked_distance : (scale : CifScale) (numbers distances : List ℤ) (c : Checks) (z v : ℤ) (off far : Bool) → 0 < 400 * scale.per
    → Decides off (IsOffGrid scale v) → Decides far (IsFarOff scale v) → Checked scale numbers distances c → AreAlike (400 * scale.per) z v
    → ((SomeIs IsTooGreat numbers → ⊥) → v ≡ z) → Checked scale numbers (distances ++ z ∷ []) (record { off = c.off || off; far = c.far || far })
checked_distance scale numbers distances c z v off far some d f h a same = record {
  off = (λ e. to_off (or_cases c.off off e), λ k. from_off (some_push (IsOffGrid scale) distances z k));
  far = (λ e. to_far (or_cases c.far far e), λ k. from_far k (some_great_or_not numbers));
}
  where
    to_off : (c.off ≡ true) ⊎ (off ≡ true) → SomeIs (IsOffGrid scale) (distances ++ z ∷ [])
    to_off (inl e) = some_before (IsOffGrid scale) distances z (h.off.0 e)
    to_off (inr e) = some_last (IsOffGrid scale) distances z (off_alike scale v z some (alike_back (400 * scale.per) z v a) (d.0 e))

    from_off : SomeIs (IsOffGrid scale) distances ⊎ IsOffGrid scale z → (c.off || off) ≡ true
    from_off (inl k) = or_left c.off off (h.off.1 k)
    from_off (inr k) = or_right c.off off (d.1 (off_alike scale z v some a k))

    there : SomeIs IsTooGreat numbers ⊎ (SomeIs IsTooGreat numbers → ⊥) → IsFarOff scale v
        → SomeIs IsTooGreat numbers ⊎ SomeIs (IsFarOff scale) (distances ++ z ∷ [])
    there (inl g) k = inl g
    there (inr g) k = inr (some_last (IsFarOff scale) distances z (let P : ℤ → Type 0 = λ n. IsFarOff scale n in subst P (same g) k))

    to_far : (c.far ≡ true) ⊎ (far ≡ true) → SomeIs IsTooGreat numbers ⊎ SomeIs (IsFarOff scale) (distances ++ z ∷ [])
    to_far (inl e) = elim (h.far.0 e) [ inl g ↦ inl g | inr b ↦ inr (some_before (IsFarOff scale) distances z b) ]
    to_far (inr e) = there (some_great_or_not numbers) (f.0 e)

    last : SomeIs (IsFarOff scale) distances ⊎ IsFarOff scale z → (SomeIs IsTooGreat numbers → ⊥) → (c.far || far) ≡ true
    last (inl b) g = or_left c.far far (h.far.1 (inr b))
    last (inr b) g = or_right c.far far (f.1 (let P : ℤ → Type 0 = λ n. IsFarOff scale n in subst P (sym (same g)) b))

    from_far : SomeIs IsTooGreat numbers ⊎ SomeIs (IsFarOff scale) (distances ++ z ∷ []) → SomeIs IsTooGreat numbers ⊎ (SomeIs IsTooGreat numbers → ⊥)
        → (c.far || far) ≡ true
    from_far k (inl g) = or_left c.far far (h.far.1 (inl g))
    from_far (inl k) (inr g) = absurd (g k)
    from_far (inr k) (inr g) = last (some_push (IsFarOff scale) distances z k) g

-- twice a number that stands for another
pub alike_double : (m : ℕ) (z v : ℤ) → AreAlike m z v → AreAlike m (pos 2 *ℤ z) (pos 2 *ℤ v)
alike_double m z v a = (2 * a.0, 2 * a.1, (let e : z +ℤ pos (m * a.0) ≡ v +ℤ pos (m * a.1) = a.2 in omega (arith, ints, e)))

-- a coordinate more
pub same_double : (m : ℕ) (numbers : List ℤ) (z v : ℤ) → StandsFor m z v → (SomeIs IsTooGreat (numbers ++ z ∷ []) → ⊥) → pos 2 *ℤ v ≡ pos 2 *ℤ z
same_double m numbers z v s g = ap (λ (n : ℤ). pos 2 *ℤ n) (s.exact (λ h. g (some_last IsTooGreat numbers z h)))

-- ---- in machine words

pub word_same : (v : ℤ) → unsigned_abs v ≤ 2 ^ 55 → to_z w64 (of_z w64 v) ≡ v
word_same v h = to_z-of_z w64 v (fits_signed_from_abs w64 v (omega (arith, h)))

pub near_same : (v : ℤ) → unsigned_abs v ≤ 2 ^ 52 → to_z w64 (of_z w64 v) ≡ v
near_same v h = word_same v (omega (arith, h))

pub stands_word : (m : ℕ) (z v : ℤ) → StandsFor m z v → StandsFor m z (to_z w64 (of_z w64 v))
stands_word m z v s = let P : ℤ → Type 0 = λ n. StandsFor m z n in subst P (sym (near_same v s.near)) s

pub great_word : (m : ℕ) (z v : ℤ) (t : Bool) → StandsFor m z v → Decides t (IsTooGreat (to_z w64 (of_z w64 v))) → Decides t (IsTooGreat v)
great_word m z v t s d = let P : ℤ → Type 0 = λ n. Decides t (IsTooGreat n) in subst P (near_same v s.near) d

pub off_word : (scale : CifScale) (v : ℤ) (t : Bool) → unsigned_abs v ≤ 2 ^ 55 → Decides t (IsOffGrid scale (to_z w64 (of_z w64 v))) → Decides t (IsOffGrid scale v)
off_word scale v t h d = let P : ℤ → Type 0 = λ n. Decides t (IsOffGrid scale n) in subst P (word_same v h) d

pub far_word : (scale : CifScale) (v : ℤ) (t : Bool) → unsigned_abs v ≤ 2 ^ 55 → Decides t (IsFarOff scale (to_z w64 (of_z w64 v))) → Decides t (IsFarOff scale v)
far_word scale v t h d = let P : ℤ → Type 0 = λ n. Decides t (IsFarOff scale n) in subst P (word_same v h) d

-- twice a number
pub twice_word : (v : ℤ) → unsigned_abs v ≤ 2 ^ 52 → to_z w64 (of_z w64 (pos 2 *ℤ v)) ≡ pos 2 *ℤ v
twice_word v h = to_z-of_z w64 (pos 2 *ℤ v) (fits_signed_from_abs w64 (pos 2 *ℤ v) (let e = unsigned_abs-mul (pos 2) v in omega (arith, e, h)))

pub double_word : (v : ℤ) → unsigned_abs v ≤ 2 ^ 52 → to_z w64 (of_z w64 (pos 2 *ℤ to_z w64 (of_z w64 v))) ≡ pos 2 *ℤ v
double_word v h = ap (λ (z : ℤ). to_z w64 (of_z w64 (pos 2 *ℤ z))) (near_same v h) ∙ twice_word v h
