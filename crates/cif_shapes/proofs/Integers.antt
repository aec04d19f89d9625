-- Tests on integers.
use Rattle.std.proofs.Common.{◌≡◌, zero, suc, Bool, true, false, cond, ◌&&◌, ℤ, pos, negsuc, ◌-ℤ◌, ◌≤ℤ◌, ◌<ℤ◌, int_lt, int_le, refl, arith}
use Rattle.std.specs.Int.{int_min, int_max}
use Rattle.std.proofs.lemmas.Int.{ints, clamps, by_lt_z}
use Rattle.geom.specs.CifShapes.{is_zero}

pub le_true : (a b : ℤ) → a ≤ℤ b → int_le a b ≡ true
le_true a b h = grind (arith, ints)

pub le_false : (a b : ℤ) → b <ℤ a → int_le a b ≡ false
le_false a b h = grind (arith, ints)

pub lt_true : (a b : ℤ) → a <ℤ b → int_lt a b ≡ true
lt_true a b h = grind (arith, ints)

pub lt_false : (a b : ℤ) → b ≤ℤ a → int_lt a b ≡ false
lt_false a b h = grind (arith, ints)

pub true_lt : (a b : ℤ) → int_lt a b ≡ true → a <ℤ b
true_lt a b h = by_lt_z a b (λ l. l) (λ l. absurd (grind (arith, ints)))

pub false_lt : (a b : ℤ) → int_lt a b ≡ false → b ≤ℤ a
false_lt a b h = by_lt_z a b (λ l. absurd (grind (arith, ints))) (λ l. l)

pub true_le : (a b : ℤ) → int_le a b ≡ true → a ≤ℤ b
true_le a b h = by_lt_z b a (λ l. absurd (grind (arith, ints))) (λ l. l)

pub false_le : (a b : ℤ) → int_le a b ≡ false → b <ℤ a
false_le a b h = by_lt_z b a (λ l. l) (λ l. absurd (grind (arith, ints)))

-- One end is in the row or below it, and the other above it.
abbrev pub crosses : ℤ → ℤ → ℤ → Bool
crosses a b y = cond (int_le a y) (int_lt y b) (int_le b y)

pub crossing : (a b y : ℤ) → (int_le (int_min a b) y && int_lt y (int_max a b)) ≡ crosses a b y
crossing a b y = by_lt_z y a (λ h. by_lt_z y b (λ k. high a b y h k) (λ k. first_high a b y h k)) (λ h. by_lt_z y b (λ k. second_high a b y h k) (λ k. low a b y h k))
  where
    high : (a b y : ℤ) → y <ℤ a → y <ℤ b → (int_le (int_min a b) y && int_lt y (int_max a b)) ≡ crosses a b y
    high a b y h k = rw (le_false (int_min a b) y (omega (arith, ints, clamps)), le_false a y h, le_false b y k) refl

    first_high : (a b y : ℤ) → y <ℤ a → b ≤ℤ y → (int_le (int_min a b) y && int_lt y (int_max a b)) ≡ crosses a b y
    first_high a b y h k =
        rw (le_true (int_min a b) y (omega (arith, ints, clamps)), lt_true y (int_max a b) (omega (arith, ints, clamps)), le_false a y h, le_true b y k) refl

    second_high : (a b y : ℤ) → a ≤ℤ y → y <ℤ b → (int_le (int_min a b) y && int_lt y (int_max a b)) ≡ crosses a b y
    second_high a b y h k =
        rw (le_true (int_min a b) y (omega (arith, ints, clamps)), lt_true y (int_max a b) (omega (arith, ints, clamps)), le_true a y h, lt_true y b k) refl

    low : (a b y : ℤ) → a ≤ℤ y → b ≤ℤ y → (int_le (int_min a b) y && int_lt y (int_max a b)) ≡ crosses a b y
    low a b y h k =
        rw (le_true (int_min a b) y (omega (arith, ints, clamps)), lt_false y (int_max a b) (omega (arith, ints, clamps)), le_true a y h, lt_false y b k) refl

pub zero_same : (a b : ℤ) → is_zero (b -ℤ a) ≡ true → a ≡ b
zero_same a b h = same_of (b -ℤ a) a b refl h
  where
    same_of : (d a b : ℤ) → d ≡ b -ℤ a → is_zero d ≡ true → a ≡ b
    same_of (pos zero) a b e h = omega (arith, ints)
    same_of (pos (suc n)) a b e h = absurd cc
    same_of (negsuc n) a b e h = absurd cc

pub same_zero : (a b : ℤ) → a ≡ b → is_zero (b -ℤ a) ≡ true
same_zero a b h = zero_of (b -ℤ a) (omega (arith, ints))
  where
    zero_of : (d : ℤ) → d ≡ pos 0 → is_zero d ≡ true
    zero_of (pos zero) e = refl
    zero_of (pos (suc n)) e = absurd (omega (arith, ints))
    zero_of (negsuc n) e = absurd (omega (arith, ints))

pub other_zero : (a b : ℤ) → (a ≡ b → ⊥) → is_zero (b -ℤ a) ≡ false
other_zero a b h = zero_of (b -ℤ a) (λ e. h (omega (arith, ints)))
  where
    zero_of : (d : ℤ) → (d ≡ pos 0 → ⊥) → is_zero d ≡ false
    zero_of (pos zero) e = absurd (e refl)
    zero_of (pos (suc n)) e = refl
    zero_of (negsuc n) e = refl
