-- One axis of boxes that are turned and moved.
use Rattle.std.proofs.Common.{◌≡◌, Bool, true, false, cond, not, ℤ, pos, neg_ℤ, ◌+ℤ◌, ◌<ℤ◌, refl, arith}
use Rattle.std.specs.Int.{int_min, int_max}
use Rattle.std.proofs.lemmas.Int.{ints, clamps}
use Rattle.geom.specs.Turns.{flipped}

-- ---- turns one after another

pub neg_twice : (v : ℤ) → neg_ℤ (neg_ℤ v) ≡ v
neg_twice v = omega (arith, ints)

abbrev pub differ : Bool → Bool → Bool
differ true b = not b
differ false b = b

pub flipped_twice : (a b : Bool) (v : ℤ) → flipped (differ a b) v ≡ flipped b (flipped a v)
flipped_twice true true v = omega (arith, ints)
flipped_twice true false v = refl
flipped_twice false true v = refl
flipped_twice false false v = refl

-- ---- edges one after another

low_twice : (n : Bool) (a b d e : ℤ)
    → int_min (flipped n a) (flipped n b) +ℤ (flipped n d +ℤ e)
    ≡ int_min (flipped n (int_min a b +ℤ d)) (flipped n (int_max a b +ℤ d)) +ℤ e
low_twice true a b d e = omega (arith, ints, clamps)
low_twice false a b d e = omega (arith, ints, clamps)

high_twice : (n : Bool) (a b d e : ℤ)
    → int_max (flipped n a) (flipped n b) +ℤ (flipped n d +ℤ e)
    ≡ int_max (flipped n (int_min a b +ℤ d)) (flipped n (int_max a b +ℤ d)) +ℤ e
high_twice true a b d e = omega (arith, ints, clamps)
high_twice false a b d e = omega (arith, ints, clamps)

-- an edge by the coordinate that the turn takes it from
pub low_behind : (swap n : Bool) (a b c d x y e : ℤ)
    → int_min (flipped n (cond swap c a)) (flipped n (cond swap d b)) +ℤ (flipped n (cond swap y x) +ℤ e)
    ≡ int_min (flipped n (cond swap (int_min c d +ℤ y) (int_min a b +ℤ x))) (flipped n (cond swap (int_max c d +ℤ y) (int_max a b +ℤ x))) +ℤ e
low_behind true n a b c d x y e = low_twice n c d y e
low_behind false n a b c d x y e = low_twice n a b x e

pub high_behind : (swap n : Bool) (a b c d x y e : ℤ)
    → int_max (flipped n (cond swap c a)) (flipped n (cond swap d b)) +ℤ (flipped n (cond swap y x) +ℤ e)
    ≡ int_max (flipped n (cond swap (int_min c d +ℤ y) (int_min a b +ℤ x))) (flipped n (cond swap (int_max c d +ℤ y) (int_max a b +ℤ x))) +ℤ e
high_behind true n a b c d x y e = high_twice n c d y e
high_behind false n a b c d x y e = high_twice n a b x e

-- ---- order

ordered_flip : (n : Bool) (a b e : ℤ) → a <ℤ b
    → (int_min (flipped n a) (flipped n b) +ℤ e) <ℤ (int_max (flipped n a) (flipped n b) +ℤ e)
ordered_flip true a b e h = omega (arith, ints, clamps)
ordered_flip false a b e h = omega (arith, ints, clamps)

pub ordered_behind : (swap n : Bool) (a b c d e : ℤ) → a <ℤ b → c <ℤ d
    → (int_min (flipped n (cond swap c a)) (flipped n (cond swap d b)) +ℤ e) <ℤ (int_max (flipped n (cond swap c a)) (flipped n (cond swap d b)) +ℤ e)
ordered_behind true n a b c d e h k = ordered_flip n c d e k
ordered_behind false n a b c d e h k = ordered_flip n a b e h

pub low_still : (a b : ℤ) → a <ℤ b → int_min a b +ℤ pos 0 ≡ a
low_still a b h = omega (arith, ints, clamps)

pub high_still : (a b : ℤ) → a <ℤ b → int_max a b +ℤ pos 0 ≡ b
high_still a b h = omega (arith, ints, clamps)

-- ---- both of two

low_flip : (n : Bool) (a b c d e : ℤ) → a <ℤ b → c <ℤ d
    → int_min (flipped n (int_min a c)) (flipped n (int_max b d)) +ℤ e
    ≡ int_min (int_min (flipped n a) (flipped n b) +ℤ e) (int_min (flipped n c) (flipped n d) +ℤ e)
low_flip true a b c d e h k = omega (arith, ints, clamps)
low_flip false a b c d e h k = omega (arith, ints, clamps)

high_flip : (n : Bool) (a b c d e : ℤ) → a <ℤ b → c <ℤ d
    → int_max (flipped n (int_min a c)) (flipped n (int_max b d)) +ℤ e
    ≡ int_max (int_max (flipped n a) (flipped n b) +ℤ e) (int_max (flipped n c) (flipped n d) +ℤ e)
high_flip true a b c d e h k = omega (arith, ints, clamps)
high_flip false a b c d e h k = omega (arith, ints, clamps)

-- the two boxes have the edges a, c, b, d and a', c', b', d'
pub low_both : (swap n : Bool) (a b c d a' b' c' d' e : ℤ) → a <ℤ b → c <ℤ d → a' <ℤ b' → c' <ℤ d'
    → int_min (flipped n (cond swap (int_min c c') (int_min a a'))) (flipped n (cond swap (int_max d d') (int_max b b'))) +ℤ e
    ≡ int_min (int_min (flipped n (cond swap c a)) (flipped n (cond swap d b)) +ℤ e)
    (int_min (flipped n (cond swap c' a')) (flipped n (cond swap d' b')) +ℤ e)
low_both true n a b c d a' b' c' d' e h k h' k' = low_flip n c d c' d' e k k'
low_both false n a b c d a' b' c' d' e h k h' k' = low_flip n a b a' b' e h h'

pub high_both : (swap n : Bool) (a b c d a' b' c' d' e : ℤ) → a <ℤ b → c <ℤ d → a' <ℤ b' → c' <ℤ d'
    → int_max (flipped n (cond swap (int_min c c') (int_min a a'))) (flipped n (cond swap (int_max d d') (int_max b b'))) +ℤ e
    ≡ int_max (int_max (flipped n (cond swap c a)) (flipped n (cond swap d b)) +ℤ e)
    (int_max (flipped n (cond swap c' a')) (flipped n (cond swap d' b')) +ℤ e)
high_both true n a b c d a' b' c' d' e h k h' k' = high_flip n c d c' d' e k k'
high_both false n a b c d a' b' c' d' e h k h' k' = high_flip n a b a' b' e h h'
