-- Distances in units, and in λ.
use Rattle.std.proofs.Common.{◌≡◌, ◌⊎◌, inl, inr, ℕ, zero, suc, ◌+◌, ◌-◌, ◌*◌, ◌^◌, ◌≤◌, ◌<◌, ℤ, pos, negsuc, neg_ℤ, ◌+ℤ◌, ◌*ℤ◌, ◌<ℤ◌, ◌≤ℤ◌, int_div, int_rem, refl, sym, ◌∙◌, ap, subst, arith}
use mir.Syntax.{w64, w128}
use mir.Val.{to_z, of_z}
use Rattle.std.specs.Int.RustNames.{FitsSigned, unsigned_abs}
use Rattle.std.proofs.lemmas.Int.{ints, by_lt_z, quot-rem, to_z-of_z, fits_signed_from_abs}
use borrow.Author.Differences.{product_is}
use Rattle.geom.specs.CifCodes.{IsOffGrid, IsFarOff}
use Rattle.geom.specs.Turns.{IsReachable}
use Rattle.cif_codes.specs.declared.scale.Scale.{Scale}
use Rattle.cif_codes.specs.Scales.{ratio, grid_of, IsScale}
use Rattle.cif_codes.proofs.Scaling.{leaf, product}

pub times_lt : (a b : ℤ) (t : ℕ) → a <ℤ b → 0 < t → (a *ℤ pos t) <ℤ (b *ℤ pos t)
times_lt (pos a) (pos b) t h s =
    let e : b ≡ a + 1 + (b - a - 1) = omega (arith, ints, h) in
    let r : b * t ≡ (a + 1 + (b - a - 1)) * t = ap (λ (n : ℕ). n * t) e in
    let f : (a + 1 + (b - a - 1)) * t ≡ a * t + t + (b - a - 1) * t = omega arith in
    omega (arith, ints, product_is, r, f, s)
times_lt (pos a) (negsuc b) t h s = absurd (omega (arith, ints, h))
times_lt (negsuc a) (pos b) t h s = let f : suc a * t ≡ a * t + t = omega arith in omega (arith, ints, product_is, f, s)
times_lt (negsuc a) (negsuc b) t h s =
    let e : suc a ≡ suc b + 1 + (a - b - 1) = omega (arith, ints, h) in
    let r : suc a * t ≡ (suc b + 1 + (a - b - 1)) * t = ap (λ (n : ℕ). n * t) e in
    let f : (suc b + 1 + (a - b - 1)) * t ≡ suc b * t + t + (a - b - 1) * t = omega arith in
    omega (arith, ints, product_is, r, f, s)

pub cancel_lt : (a b : ℤ) (g : ℕ) → 0 < g → (a *ℤ pos g) <ℤ (b *ℤ pos g) → a <ℤ b
cancel_lt a b g s h =
    by_lt_z a b (λ l. l) (λ m. by_lt_z b a (λ l. absurd (over (times_lt b a g l s))) (λ n. absurd (same (omega (arith, ints, m, n)))))
  where
    over : (b *ℤ pos g) <ℤ (a *ℤ pos g) → ⊥
    over k = by_two (a *ℤ pos g) (b *ℤ pos g) h k
      where
        by_two : (x y : ℤ) → x <ℤ y → y <ℤ x → ⊥
        by_two x y l k = omega (arith, ints, l, k)

    same : a ≡ b → ⊥
    same e = let P : ℤ → Type 0 = λ v. (v *ℤ pos g) <ℤ (b *ℤ pos g) in irreflexive (b *ℤ pos g) (subst P e h)
      where
        irreflexive : (x : ℤ) → x <ℤ x → ⊥
        irreflexive x l = omega (arith, ints, l)

-- edges in order stay so
pub scaled_lt : (l r x y : ℤ) (t g : ℕ) → l <ℤ r → 0 < t → 0 < g → x *ℤ pos g ≡ l *ℤ pos t → y *ℤ pos g ≡ r *ℤ pos t → x <ℤ y
scaled_lt l r x y t g h s k e f =
    let P : ℤ → Type 0 = λ v. v <ℤ (r *ℤ pos t) in
    let Q : ℤ → Type 0 = λ v. (x *ℤ pos g) <ℤ v in
    cancel_lt x y g k (subst Q (sym f) (subst P (sym e) (times_lt l r t h s)))

-- ---- the distance in λ

zero_or_not : (z : ℤ) → (z ≡ pos 0) ⊎ (z ≡ pos 0 → ⊥)
zero_or_not (pos zero) = inl refl
zero_or_not (pos (suc n)) = inr (λ e. cc)
zero_or_not (negsuc n) = inr (λ e. cc)

divided : (s : ℤ) (g : ℕ) → ((int_rem s (pos g) ≡ pos 0 → ⊥) → ⊥) → int_div s (pos g) *ℤ pos g ≡ s
divided s g h = by (zero_or_not (int_rem s (pos g)))
  where
    by : (int_rem s (pos g) ≡ pos 0) ⊎ (int_rem s (pos g) ≡ pos 0 → ⊥) → int_div s (pos g) *ℤ pos g ≡ s
    by (inr n) = absurd (h n)
    by (inl e) =
        let q = quot-rem s (pos g) in
        whole (int_div s (pos g) *ℤ pos g) (int_rem s (pos g)) e q
      where
        whole : (x r : ℤ) → r ≡ pos 0 → x +ℤ r ≡ s → x ≡ s
        whole x r e q = omega (arith, ints, e, q)

at_most : (q s : ℤ) (g : ℕ) → 0 < g → q *ℤ pos g ≡ s → (pos (g * 2 ^ 40) <ℤ s → ⊥) → q ≤ℤ pos (2 ^ 40)
at_most q s g h e n =
    by_lt_z (pos (2 ^ 40)) q
    (λ l. absurd (n (
    let f : pos (2 ^ 40) *ℤ pos g ≡ pos (g * 2 ^ 40) = omega (arith, ints, product_is) in
    let P : ℤ → Type 0 = λ v. v <ℤ (q *ℤ pos g) in
    let Q : ℤ → Type 0 = λ v. pos (g * 2 ^ 40) <ℤ v in
    subst Q e (subst P f (times_lt (pos (2 ^ 40)) q g l h)))))
    (λ m. m)

at_least : (q s : ℤ) (g : ℕ) → 0 < g → q *ℤ pos g ≡ s → (s <ℤ neg_ℤ (pos (g * 2 ^ 40)) → ⊥) → neg_ℤ (pos (2 ^ 40)) ≤ℤ q
at_least q s g h e n =
    by_lt_z q (neg_ℤ (pos (2 ^ 40)))
    (λ l. absurd (n (
    let f : neg_ℤ (pos (2 ^ 40)) *ℤ pos g ≡ neg_ℤ (pos (g * 2 ^ 40)) = omega (arith, ints, product_is) in
    let P : ℤ → Type 0 = λ v. (q *ℤ pos g) <ℤ v in
    let Q : ℤ → Type 0 = λ v. v <ℤ neg_ℤ (pos (g * 2 ^ 40)) in
    subst Q e (subst P f (times_lt q (neg_ℤ (pos (2 ^ 40))) g l h)))))
    (λ m. m)

-- the distance of which this is twice the number of units
abbrev pub in_lambda : Scale → ℤ → ℤ
in_lambda scale twice = int_div (twice *ℤ pos scale.times) (pos (400 * scale.per))

pub lambda_exact : (scale : Scale) (twice : ℤ) → (IsOffGrid (ratio scale) twice → ⊥) → in_lambda scale twice *ℤ pos (400 * scale.per) ≡ twice *ℤ pos scale.times
lambda_exact scale twice n = divided (twice *ℤ pos scale.times) (400 * scale.per) n

pub lambda_near : (scale : Scale) (twice : ℤ) → IsScale scale → (IsOffGrid (ratio scale) twice → ⊥) → (IsFarOff (ratio scale) twice → ⊥) → IsReachable (in_lambda scale twice)
lambda_near scale twice h n f =
    let g : 0 < 400 * scale.per = (let s = h.some_per in omega (arith, s)) in
    let e = lambda_exact scale twice n in
    record {
      from = at_least (in_lambda scale twice) (twice *ℤ pos scale.times) (400 * scale.per) g e (λ l. f (inr l));
      to = at_most (in_lambda scale twice) (twice *ℤ pos scale.times) (400 * scale.per) g e (λ l. f (inl l));
    }

-- in machine words
near_abs : (z : ℤ) → IsReachable z → unsigned_abs z ≤ 2 ^ 40
near_abs (pos n) h = let k = h.to in omega (arith, ints, k)
near_abs (negsuc n) h = let k = h.from in omega (arith, ints, k)

pub lambda_word : (scale : Scale) (twice a b p : ℤ) → a ≡ twice → b ≡ pos scale.times → p ≡ pos (400 * scale.per) → unsigned_abs twice ≤ 2 ^ 55 → IsScale scale
    → IsReachable (in_lambda scale twice)
    → to_z w128 (of_z w128 (int_div (to_z w128 (of_z w128 (to_z w128 (of_z w128 a) *ℤ to_z w128 (of_z w128 b)))) (to_z w128 (of_z w128 p)))) ≡ in_lambda scale twice
lambda_word scale twice a b p ea eb ep near h r =
    let P : ℤ → Type 0 = λ v. unsigned_abs v ≤ 2 ^ 60 in
    let t = h.few_times in
    let d = h.few_per in
    let s : to_z w128 (of_z w128 (to_z w128 (of_z w128 a) *ℤ to_z w128 (of_z w128 b))) ≡ twice *ℤ pos scale.times =
    product a b (subst P (sym ea) (omega (arith, near))) (subst P (sym eb) (omega (arith, t)))
    ∙ (ap (λ (z : ℤ). z *ℤ b) ea ∙ ap (λ (z : ℤ). twice *ℤ z) eb) in
    let g : to_z w128 (of_z w128 p) ≡ pos (400 * scale.per) = leaf p (2 ^ 60) (subst P (sym ep) (omega (arith, d))) (omega arith) ∙ ep in
    let q = near_abs (in_lambda scale twice) r in
    ap (λ (z : ℤ). to_z w128 (of_z w128 (int_div z (to_z w128 (of_z w128 p))))) s
    ∙ (ap (λ (z : ℤ). to_z w128 (of_z w128 (int_div (twice *ℤ pos scale.times) z))) g ∙ leaf (in_lambda scale twice) (2 ^ 40) q (omega arith))

pub lambda_short : (scale : Scale) (twice : ℤ) → IsReachable (in_lambda scale twice) → to_z w64 (of_z w64 (in_lambda scale twice)) ≡ in_lambda scale twice
lambda_short scale twice r =
    let q = near_abs (in_lambda scale twice) r in
    to_z-of_z w64 (in_lambda scale twice) (fits_signed_from_abs w64 (in_lambda scale twice) (omega (arith, q)))

pub lambda_fits : (scale : Scale) (twice v : ℤ) → v ≡ in_lambda scale twice → IsReachable (in_lambda scale twice) → FitsSigned w64 v
lambda_fits scale twice v e r =
    let q = near_abs (in_lambda scale twice) r in
    let P : ℤ → Type 0 = λ z. FitsSigned w64 z in
    subst P (sym e) (fits_signed_from_abs w64 (in_lambda scale twice) (omega (arith, q)))
