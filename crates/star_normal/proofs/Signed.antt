-- How signs behind an expression change the top node of its normal form.
use Rattle.std.proofs.Common.{◌≡◌, ◌≢◌, ◌⊎◌, ℕ, ◌<◌, Bool, true, false, ◌&&◌, ◌||◌, ◌==◌, w16, bit_or, max, refl, sym, ap, ◌∙◌, inl, inr, arith}
use Rattle.std.specs.Int.{bit_at}
use Rattle.std.proofs.lemmas.Bool.{cases_eq}
use Rattle.std.proofs.lemmas.Nat.Bits.{bit_at_set_same, bit_at_set_other, bit_at-zero, bit_at-lt, bit_at_or}
use Rattle.star_normal.specs.declared.signs.Signs.{Signs}
use Rattle.star_normal.specs.Trees.{Flags, FlaggedTree, leaf, seq, alt, flags}
use Rattle.star_normal.specs.Normal.{with_flags, looped, emptied, marking, turned, opted}
use Rattle.star_normal.specs.Signs.{no_signs, kept, merged, looped_signs, emptied_signs, opted_signs, set_bit, set_bit_if, marked_signs, sign_flags, added, adding}
use Rattle.star_normal.proofs.Forms.{IsBare}

-- Bits.

no_bit : (y : ℕ) → (bit_at 0 y == 1) ≡ false
no_bit y = rw (bit_at-zero y) refl

same_or_not : (z y : ℕ) → (z ≡ y) ⊎ (z ≢ y)
same_or_not z y = cases_eq z y

new_bit : (mask y z : ℕ) → y < 16 → (z ≡ y) ⊎ (z ≢ y) → (bit_at (set_bit mask y) z == 1) ≡ (y == z || bit_at mask z == 1)
new_bit mask y z h (inl e) =
    let same : bit_at (set_bit mask y) y ≡ 1 = bit_at_set_same w16 mask y h in
    let test : (y == y) ≡ true = grind arith in
    rw (e, same, test) refl
new_bit mask y z h (inr ne) =
    let other : bit_at (set_bit mask y) z ≡ bit_at mask z = bit_at_set_other w16 mask y h z ne in
    let test : (y == z) ≡ false = grind (arith, ne) in
    rw (other, test) refl

new_bit_if : (e : Bool) (mask y z : ℕ) → y < 16 → (z ≡ y) ⊎ (z ≢ y) → (bit_at (set_bit_if e mask y) z == 1) ≡ ((e && y == z) || bit_at mask z == 1)
new_bit_if true mask y z h c = new_bit mask y z h c
new_bit_if false mask y z h c = refl

one_of : (a b : ℕ) → a < 2 → b < 2 → (a ≡ 1) ⊎ (a ≢ 1) → (max a b == 1) ≡ (a == 1 || b == 1)
one_of a b h k (inl e) =
    let m : max a b ≡ 1 = omega (arith, h, k, e) in
    rw (m, e) refl
one_of a b h k (inr ne) =
    let z : a ≡ 0 = omega (arith, h, ne) in
    let m : max a b ≡ b = omega (arith, z) in
    rw (m, z) refl

either_bit : (a b y : ℕ) → (bit_at (bit_or a b) y == 1) ≡ (bit_at a y == 1 || bit_at b y == 1)
either_bit a b y = rw (bit_at_or a b y) (one_of (bit_at a y) (bit_at b y) (bit_at-lt a y) (bit_at-lt b y) (cases_eq (bit_at a y) 1))

-- Tests.

or_false : (a : Bool) → (a || false) ≡ a
or_false true = refl
or_false false = refl

or_true : (a : Bool) → (a || true) ≡ true
or_true true = refl
or_true false = refl

or_assoc : (a b c : Bool) → ((a || b) || c) ≡ (a || (b || c))
or_assoc true b c = refl
or_assoc false b c = refl

or_first : (a b c : Bool) → (a || (b || c)) ≡ (b || (a || c))
or_first true true c = refl
or_first true false c = refl
or_first false b c = refl

-- Flags.

pub flags_none : (f : Flags) → added (sign_flags no_signs) f ≡ f
flags_none f = λ i. record {
  loops = or_false f.loops i;
  eps = or_false f.eps i;
  scan = f.scan;
  marks = λ y. (ap (λ b. f.marks y || b) (no_bit y) ∙ or_false (f.marks y)) i;
  eps_marks = λ y. (ap (λ b. f.eps_marks y || b) (no_bit y) ∙ or_false (f.eps_marks y)) i;
}

flags_merged : (a c : Signs) (f : Flags) → added (sign_flags a) (added (sign_flags c) f) ≡ added (sign_flags (merged c a)) f
flags_merged a c f = λ i. record {
  loops = or_assoc f.loops c.loops a.loops i;
  eps = or_assoc f.eps c.eps a.eps i;
  scan = f.scan;
  marks = λ y. (or_assoc (f.marks y) (bit_at c.marks y == 1) (bit_at a.marks y == 1) ∙ ap (λ b. f.marks y || b) (sym (either_bit c.marks a.marks y))) i;
  eps_marks = λ y. (or_assoc (f.eps_marks y) (bit_at c.eps_marks y == 1) (bit_at a.eps_marks y == 1) ∙ ap (λ b. f.eps_marks y || b) (sym (either_bit c.eps_marks a.eps_marks y))) i;
}

flags_looped : (e : Bool) (c : Signs) (f : Flags) → f.loops ≡ false → f.eps ≡ false → (d : Signs) → d.marks ≡ c.marks → d.eps_marks ≡ c.eps_marks
    → looped e (added (sign_flags d) f) ≡ added (sign_flags (looped_signs e c)) f
flags_looped e c f l n d m k = λ i. record {
  loops = sym (or_true f.loops) i;
  eps = sym (ap (λ b. b || e) n) i;
  scan = f.scan;
  marks = λ y. f.marks y || bit_at (m i) y == 1;
  eps_marks = λ y. f.eps_marks y || bit_at (k i) y == 1;
}

flags_emptied : (c : Signs) (f : Flags) → emptied (added (sign_flags c) f) ≡ added (sign_flags (emptied_signs c)) f
flags_emptied c f = λ i. record {
  loops = f.loops || c.loops;
  eps = sym (or_true f.eps) i;
  scan = f.scan;
  marks = λ y. f.marks y || bit_at c.marks y == 1;
  eps_marks = λ y. f.eps_marks y || bit_at c.eps_marks y == 1;
}

flags_opted : (a : Signs) (f : Flags) → added (sign_flags a) (emptied f) ≡ added (sign_flags (emptied_signs a)) f
flags_opted a f = λ i. record {
  loops = f.loops || a.loops;
  eps = sym (or_true f.eps) i;
  scan = f.scan;
  marks = λ y. f.marks y || bit_at a.marks y == 1;
  eps_marks = λ y. f.eps_marks y || bit_at a.eps_marks y == 1;
}

flags_marked : (y : ℕ) (e : Bool) (c : Signs) (f : Flags) → y < 16 → marking y e (added (sign_flags c) f) ≡ added (sign_flags (marked_signs y e c)) f
flags_marked y e c f h = λ i. record {
  loops = f.loops || c.loops;
  eps = f.eps || c.eps;
  scan = f.scan;
  marks = λ z. (or_first (y == z) (f.marks z) (bit_at c.marks z == 1) ∙ ap (λ b. f.marks z || b) (sym (new_bit c.marks y z h (same_or_not z y)))) i;
  eps_marks = λ z. (or_first (e && y == z) (f.eps_marks z) (bit_at c.eps_marks z == 1) ∙ ap (λ b. f.eps_marks z || b) (sym (new_bit_if e c.eps_marks y z h (same_or_not z y)))) i;
}

-- Trees.

-- other flags at the top node, from flags that are equal
abbrev retop : (h k : Flags → Flags) → Type 0
retop h k = (t : FlaggedTree) → with_flags (h (flags t)) t ≡ with_flags (k (flags t)) t

by_flags : (h k : Flags → Flags) (t : FlaggedTree) → h (flags t) ≡ k (flags t) → with_flags (h (flags t)) t ≡ with_flags (k (flags t)) t
by_flags h k t e = ap (λ f. with_flags f t) e

-- flags over flags
twice : (h k : Flags → Flags) (t : FlaggedTree) → with_flags (h (flags (with_flags (k (flags t)) t))) (with_flags (k (flags t)) t) ≡ with_flags (h (k (flags t))) t
twice h k (leaf f s) = refl
twice h k (seq f l r) = refl
twice h k (alt f l r) = refl

own : (t : FlaggedTree) → with_flags (flags t) t ≡ t
own (leaf f s) = refl
own (seq f l r) = refl
own (alt f l r) = refl

pub adding_none : (t : FlaggedTree) → adding no_signs t ≡ t
adding_none t = ap (λ f. with_flags f t) (flags_none (flags t)) ∙ own t

pub adding_merged : (a c : Signs) (t : FlaggedTree) → adding a (adding c t) ≡ adding (merged c a) t
adding_merged a c t = twice (added (sign_flags a)) (added (sign_flags c)) t ∙ ap (λ f. with_flags f t) (flags_merged a c (flags t))

pub turned_adding : (under e : Bool) (c : Signs) (t : FlaggedTree) → IsBare (flags t) → turned under e (adding (kept true c) t) ≡ adding (kept under (looped_signs e c)) t
turned_adding true e c t b = refl
turned_adding false e c t b = twice (looped e) (added (sign_flags (kept true c))) t ∙ ap (λ f. with_flags f t) (flags_looped e c (flags t) b.loops b.eps (kept true c) refl refl)

pub opted_adding : (under : Bool) (c : Signs) (t : FlaggedTree) → opted under (adding (kept under c) t) ≡ adding (kept under (emptied_signs c)) t
opted_adding true c t = refl
opted_adding false c t = twice emptied (added (sign_flags c)) t ∙ ap (λ f. with_flags f t) (flags_emptied c (flags t))

kept_marked : (under : Bool) (y : ℕ) (e : Bool) (c : Signs) → marked_signs y e (kept under c) ≡ kept under (marked_signs y e c)
kept_marked true y e c = refl
kept_marked false y e c = refl

pub marked_adding : (under : Bool) (y : ℕ) (e : Bool) (c : Signs) (t : FlaggedTree) → y < 16
    → with_flags (marking y e (flags (adding (kept under c) t))) (adding (kept under c) t) ≡ adding (kept under (marked_signs y e c)) t
marked_adding under y e c t h =
    twice (marking y e) (added (sign_flags (kept under c))) t
    ∙ ap (λ f. with_flags f t) (flags_marked y e (kept under c) (flags t) h)
    ∙ ap (λ s. adding s t) (kept_marked under y e c)

-- signs over an option
pub adding_opted : (under : Bool) (a : Signs) (t : FlaggedTree) → adding a (opted under t) ≡ adding (opted_signs under a) t
adding_opted true a t = refl
adding_opted false a t = twice (added (sign_flags a)) emptied t ∙ ap (λ f. with_flags f t) (flags_opted a (flags t))
