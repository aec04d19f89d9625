-- Multiples of distances, in order.
use Rattle.std.proofs.Common.{◌≡◌, ℕ, suc, ◌+◌, ◌-◌, ◌*◌, ◌<◌, ℤ, pos, negsuc, ◌*ℤ◌, ◌<ℤ◌, sym, ap, subst, arith}
use Rattle.std.proofs.lemmas.Int.{ints, by_lt_z}
use borrow.Author.Differences.{product_is}

pub times_lt : (a b : ℤ) (t : ℕ) → a <ℤ b → 0 < t → (a *ℤ pos t) <ℤ (b *ℤ pos t)
times_lt (pos a) (pos b) t h s =
    let e : b ≡ a + 1 + (b - a - 1) = omega (arith, ints, h) in
    let r : b * t ≡ (a + 1 + (b - a - 1)) * t = ap (λ (n : ℕ). n * t) e in
    let f : (a + 1 + (b - a - 1)) * t ≡ a * t + t + (b - a - 1) * t = omega arith in
    omega (arith, ints, product_is, r, f, s)
times_lt (pos a) (negsuc b) t h s = absurd (omega (arith, ints, h))
times_lt (negsuc a) (pos b) t h s = let f : suc a * t ≡ a * t + t = omega arith in omega (arith, ints, product_is, f, s)
times_lt (negsuc a) (negsuc b) t h s =
    let e : suc a ≡ suc b + 1 + (a - b - 1) = omega (arith, ints, h) in
    let r : suc a * t ≡ (suc b + 1 + (a - b - 1)) * t = ap (λ (n : ℕ). n * t) e in
    let f : (suc b + 1 + (a - b - 1)) * t ≡ suc b * t + t + (a - b - 1) * t = omega arith in
    omega (arith, ints, product_is, r, f, s)

pub cancel_lt : (a b : ℤ) (g : ℕ) → 0 < g → (a *ℤ pos g) <ℤ (b *ℤ pos g) → a <ℤ b
cancel_lt a b g s h =
    by_lt_z a b (λ l. l) (λ m. by_lt_z b a (λ l. absurd (over (times_lt b a g l s))) (λ n. absurd (same (omega (arith, ints, m, n)))))
  where
    over : (b *ℤ pos g) <ℤ (a *ℤ pos g) → ⊥
    over k = by_two (a *ℤ pos g) (b *ℤ pos g) h k
      where
        by_two : (x y : ℤ) → x <ℤ y → y <ℤ x → ⊥
        by_two x y l k = omega (arith, ints, l, k)

    same : a ≡ b → ⊥
    same e = let P : ℤ → Type 0 = λ v. (v *ℤ pos g) <ℤ (b *ℤ pos g) in irreflexive (b *ℤ pos g) (subst P e h)
      where
        irreflexive : (x : ℤ) → x <ℤ x → ⊥
        irreflexive x l = omega (arith, ints, l)

-- edges in order stay so
pub scaled_lt : (l r x y : ℤ) (t g : ℕ) → l <ℤ r → 0 < t → 0 < g → x *ℤ pos g ≡ l *ℤ pos t → y *ℤ pos g ≡ r *ℤ pos t → x <ℤ y
scaled_lt l r x y t g h s k e f =
    let P : ℤ → Type 0 = λ v. v <ℤ (r *ℤ pos t) in
    let Q : ℤ → Type 0 = λ v. (x *ℤ pos g) <ℤ v in
    cancel_lt x y g k (subst Q (sym f) (subst P (sym e) (times_lt l r t h s)))
