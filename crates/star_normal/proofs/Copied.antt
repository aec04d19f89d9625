-- Copies of expressions: no repeat is left, and what they spell of the empty word.
use Rattle.std.proofs.Common.{◌≡◌, ℕ, zero, suc, pred, ◌≤◌, Bool, true, false, ◌&&◌, ◌||◌, ◌==◌, List, [], ◌∷◌, ◌++◌, map, refl, sym, ap, ◌∙◌, arith}
use Rattle.std.proofs.lemmas.List.{append-nil}
use Rattle.rx_lang.specs.Expression.{Expr, symbol, sequence, union, star, plus, optional, marked, repeated}
use Rattle.rx_lang.specs.Copies.{copies, copied, times, occurrences, IsBounded}
use Rattle.star_normal.specs.Normal.{nullable, united}
use Rattle.star_normal.specs.Shapes.{HasNoRepeat}

pub no_repeat_copies : (m n : ℕ) (f : Expr) → HasNoRepeat f → HasNoRepeat (copies m n f)
no_repeat_copies zero zero f p = p
no_repeat_copies (suc m) zero f p = p
no_repeat_copies zero (suc n) f p = (p, no_repeat_copies zero n f p)
no_repeat_copies (suc m) (suc n) f p = (p, no_repeat_copies m n f p)

pub no_repeat : (e : Expr) → HasNoRepeat (copied e)
no_repeat (symbol s) = tt
no_repeat (sequence f g) = (no_repeat f, no_repeat g)
no_repeat (union f g) = (no_repeat f, no_repeat g)
no_repeat (star f) = no_repeat f
no_repeat (plus f) = no_repeat f
no_repeat (optional f) = no_repeat f
no_repeat (marked f y) = no_repeat f
no_repeat (repeated f m n) = no_repeat_copies m (pred n) (copied f) (no_repeat f)

-- no counted repeat occurs in any of the expressions
abbrev pub HaveNoRepeats : List Expr → Type 0
HaveNoRepeats [] = Unit {0}
HaveNoRepeats (e ∷ es) = HasNoRepeat e × HaveNoRepeats es

pub no_repeats : (es : List Expr) → HaveNoRepeats (map copied es)
no_repeats [] = tt
no_repeats (e ∷ es) = (no_repeat e, no_repeats es)

pub no_repeat_united : (e : Expr) (es : List Expr) → HasNoRepeat e → HaveNoRepeats es → HasNoRepeat (united e es)
no_repeat_united e [] p q = p
no_repeat_united e (f ∷ es) p q = no_repeat_united (union e f) es (p, q.0) q.1

not_zero : (m : ℕ) → (suc m == 0) ≡ false
not_zero m = grind arith

or_same : (a b : Bool) → (a && (b || a)) ≡ a
or_same true true = refl
or_same true false = refl
or_same false b = refl

pub nullable_copies : (m n : ℕ) (f : Expr) → nullable (copies m n f) ≡ (m == 0 || nullable f)
nullable_copies zero zero f = refl
nullable_copies (suc m) zero f = rw (not_zero m) refl
nullable_copies zero (suc n) f = refl
nullable_copies (suc m) (suc n) f = rw (nullable_copies m n f, not_zero m) (or_same (nullable f) (m == 0))

occurrences_copies : (m n : ℕ) (f : Expr) → occurrences (copies m n f) ≡ times (suc n) (occurrences f)
occurrences_copies zero zero f = sym (append-nil (occurrences f))
occurrences_copies (suc m) zero f = sym (append-nil (occurrences f))
occurrences_copies zero (suc n) f = ap (λ xs. occurrences f ++ xs) (occurrences_copies zero n f)
occurrences_copies (suc m) (suc n) f = ap (λ xs. occurrences f ++ xs) (occurrences_copies m n f)

repeated_times : (n : ℕ) (xs : List ℕ) → 1 ≤ n → times (suc (pred n)) xs ≡ times n xs
repeated_times zero xs h = absurd (omega arith)
repeated_times (suc n) xs h = refl

pub occurrences_copied : (e : Expr) → IsBounded e → occurrences (copied e) ≡ occurrences e
occurrences_copied (symbol s) b = refl
occurrences_copied (sequence f g) b = rw (occurrences_copied f b.0, occurrences_copied g b.1) refl
occurrences_copied (union f g) b = rw (occurrences_copied f b.0, occurrences_copied g b.1) refl
occurrences_copied (star f) b = occurrences_copied f b
occurrences_copied (plus f) b = occurrences_copied f b
occurrences_copied (optional f) b = occurrences_copied f b
occurrences_copied (marked f y) b = occurrences_copied f b
occurrences_copied (repeated f m n) b =
    occurrences_copies m (pred n) (copied f) ∙ repeated_times n (occurrences (copied f)) b.1 ∙ ap (times n) (occurrences_copied f b.3)
