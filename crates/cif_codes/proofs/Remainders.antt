-- Distances with one remainder are on the grid together.
use Rattle.std.proofs.Common.{◌≡◌, ◌⊎◌, inl, inr, ℕ, zero, suc, ◌+◌, ◌-◌, ◌*◌, ◌%◌, ◌/◌, ◌<◌, ◌≤◌, ℤ, pos, negsuc, neg_ℤ, ◌+ℤ◌, ◌*ℤ◌, int_rem, refl, sym, ◌∙◌, ap, arith}
use Rattle.std.specs.Int.RustNames.{unsigned_abs}
use Rattle.std.proofs.lemmas.Bool.{cases_lt}
use Rattle.std.proofs.lemmas.Nat.{mod-mul-add, div-add-mod'}
use Rattle.std.proofs.lemmas.Int.{ints}
use borrow.Author.Differences.{product_is}
use Rattle.geom.specs.CifCommands.{CifScale}
use Rattle.geom.specs.CifCodes.{IsOffGrid}
use Rattle.cif_values.specs.Numbers.{AreAlike}

-- a multiple leaves no remainder
whole : (m k : ℕ) → 0 < m → (m * k) % m ≡ 0
whole m k h = let e : m * k ≡ k * m + 0 = omega arith in ap (λ (n : ℕ). n % m) e ∙ mod-mul-add k m 0 h

-- what is a multiple but for multiples is one
less_whole : (m a j k : ℕ) → 0 < m → a + m * j ≡ m * k → a % m ≡ 0
less_whole m a j k h e = by (cases_lt k j)
  where
    by : (k < j) ⊎ (j ≤ k) → a % m ≡ 0
    by (inl l) = absurd (over (j - k) (omega arith))
      where
        over : (d : ℕ) → j ≡ k + d → ⊥
        over zero f = omega (arith, f, l)
        over (suc d) f =
            let g : m * j ≡ m * k + m * suc d = ap (λ (n : ℕ). m * n) f ∙ omega arith in
            let i : m * suc d ≡ m * d + m = omega arith in
            omega (arith, e, g, i, h)
    by (inr l) =
        let f : k ≡ j + (k - j) = omega arith in
        let g : m * k ≡ m * j + m * (k - j) = ap (λ (n : ℕ). m * n) f ∙ omega arith in
        let i : a ≡ m * (k - j) = omega (arith, e, g) in
        ap (λ (n : ℕ). n % m) i ∙ whole m (k - j) h

abs_zero : (n : ℕ) → neg_ℤ (pos n) ≡ pos 0 → n ≡ 0
abs_zero zero e = refl
abs_zero (suc n) e = absurd cc

rem_abs : (z : ℤ) (m : ℕ) → int_rem z (pos m) ≡ pos 0 → unsigned_abs z % m ≡ 0
rem_abs (pos a) m e = (let f : ◌≡◌ {A = ℤ} (pos (a % m)) (pos 0) = e in cc)
rem_abs (negsuc a) m e = abs_zero (suc a % m) e

abs_rem : (z : ℤ) (m : ℕ) → unsigned_abs z % m ≡ 0 → int_rem z (pos m) ≡ pos 0
abs_rem (pos a) m e = ap pos e
abs_rem (negsuc a) m e = ap (λ (n : ℕ). neg_ℤ (pos n)) e

-- a number without remainder is a multiple
multiple : (a m : ℕ) → a % m ≡ 0 → a ≡ m * (a / m)
multiple a m e = omega (arith, div-add-mod' a m, e)

rem_shift : (x y : ℤ) (m j k : ℕ) → 0 < m → x +ℤ pos (m * j) ≡ y +ℤ pos (m * k) → unsigned_abs x % m ≡ 0 → unsigned_abs y % m ≡ 0
rem_shift x y m j k h e r = by x y (unsigned_abs x / m) e (multiple (unsigned_abs x) m r)
  where
    by : (x y : ℤ) (q : ℕ) → x +ℤ pos (m * j) ≡ y +ℤ pos (m * k) → unsigned_abs x ≡ m * q → unsigned_abs y % m ≡ 0
    by (pos a) (pos b) q e f = less_whole m b k (j + q) h (omega (arith, ints, e, f))
    by (pos a) (negsuc b) q e f = less_whole m (suc b) (j + q) k h (omega (arith, ints, e, f))
    by (negsuc a) (pos b) q e f = less_whole m b (k + q) j h (omega (arith, ints, e, f))
    by (negsuc a) (negsuc b) q e f = less_whole m (suc b) j (k + q) h (omega (arith, ints, e, f))

scaled_alike : (m : ℕ) (x y : ℤ) (t : ℕ) → AreAlike m x y → AreAlike m (x *ℤ pos t) (y *ℤ pos t)
scaled_alike m x y t a =
    let e : x +ℤ pos (m * a.0) ≡ y +ℤ pos (m * a.1) = a.2 in
    (a.0 * t, a.1 * t, by x y (m * a.0) (m * a.1) (m * (a.0 * t)) (m * (a.1 * t)) e (omega arith) (omega arith))
  where
    by : (x y : ℤ) (j k u v : ℕ) → x +ℤ pos j ≡ y +ℤ pos k → u ≡ j * t → v ≡ k * t → x *ℤ pos t +ℤ pos u ≡ y *ℤ pos t +ℤ pos v
    by (pos a) (pos b) j k u v e f g =
        let s : a + j ≡ b + k = omega (arith, ints, e) in let r : (a + j) * t ≡ (b + k) * t = ap (λ (n : ℕ). n * t) s in omega (arith, ints, product_is, f, g, r)
    by (pos a) (negsuc b) j k u v e f g =
        let s : a + j + suc b ≡ k = omega (arith, ints, e) in let r : (a + j + suc b) * t ≡ k * t = ap (λ (n : ℕ). n * t) s in omega (arith, ints, product_is, f, g, r)
    by (negsuc a) (pos b) j k u v e f g =
        let s : j ≡ b + k + suc a = omega (arith, ints, e) in let r : j * t ≡ (b + k + suc a) * t = ap (λ (n : ℕ). n * t) s in omega (arith, ints, product_is, f, g, r)
    by (negsuc a) (negsuc b) j k u v e f g =
        let s : j + suc b ≡ k + suc a = omega (arith, ints, e) in let r : (j + suc b) * t ≡ (k + suc a) * t = ap (λ (n : ℕ). n * t) s in omega (arith, ints, product_is, f, g, r)

pub alike_back : (m : ℕ) (x y : ℤ) → AreAlike m x y → AreAlike m y x
alike_back m x y a = (a.1, a.0, sym a.2)

pub off_alike : (scale : CifScale) (x y : ℤ) → 0 < 400 * scale.per → AreAlike (400 * scale.per) x y → IsOffGrid scale x → IsOffGrid scale y
off_alike scale x y h a off = λ e.
    let m : ℕ = 400 * scale.per in
    let b = scaled_alike (400 * scale.per) y x scale.times (alike_back (400 * scale.per) x y a) in
    off (abs_rem (x *ℤ pos scale.times) (400 * scale.per)
    (rem_shift (y *ℤ pos scale.times) (x *ℤ pos scale.times) (400 * scale.per) b.0 b.1 h b.2 (rem_abs (y *ℤ pos scale.times) (400 * scale.per) e)))
