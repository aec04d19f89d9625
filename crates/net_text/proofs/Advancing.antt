-- From one stage of reading to the next, and to a first fault.
use Rattle.std.proofs.Common.{◌≡◌, ℕ, Bool, true, false, ◌==◌, ◌&&◌, not, List, [], ◌∷◌, ◌++◌, refl, sym, ap, ◌∙◌, subst, append_assoc, append-nil}
use Rattle.std.specs.Prelude.{codes}
use Rattle.rx_text.specs.NumberInText.{is_digit}
use Rattle.net_text.specs.Shape.{Shaped}
use Rattle.net_text.specs.NetRefusals.{BeginsNetText, NumberBegins, NetCodeStands, NoCodeWithin}
use Rattle.net_text.specs.Stages.{InRange, Stage}
use Rattle.net_text.specs.declared.net_fault.NetCode.{NetCode}
use Rattle.net_text.specs.declared.net_fault.NetCode.TheVariants.{N1, N2, N3, N4, N5, N6}
use Rattle.net_text.proofs.Cuts.{Cuts, cuts}
use Rattle.net_text.proofs.ReadBack.{both_true}

-- what begins a text of the shape, a front of it does
pub begins_front : (xs ys : List ℕ) → BeginsNetText (xs ++ ys) → BeginsNetText xs
begins_front xs ys b = (ys ++ b.0, subst Shaped (append_assoc xs ys b.0) b.1)

-- ---- bytes at which no number begins

-- the bytes end in a space, or there are none and a space stands before them
abbrev pub after_space : Bool → List ℕ → Bool
after_space before [] = before
after_space before (c ∷ cs) = after_space (c == 32) cs

-- no digit stands behind a space
abbrev pub quiet : Bool → List ℕ → Bool
quiet before [] = true
quiet before (c ∷ cs) = not (before && is_digit c) && quiet (c == 32) cs

-- at no place within
pub quiet_at : (before : Bool) (xs : List ℕ) (c : ℕ) (ys : List ℕ) → quiet before (xs ++ c ∷ ys) ≡ true → after_space before xs ≡ true
    → is_digit c ≡ true → ⊥
quiet_at before [] c ys q s d = no_digit before (is_digit c) (both_true (not (before && is_digit c)) _ q).0 s d
  where
    no_digit : (a b : Bool) → not (a && b) ≡ true → a ≡ true → b ≡ true → ⊥
    no_digit true true n p q = cc
    no_digit true false n p q = cc
    no_digit false b n p q = cc
quiet_at before (x ∷ xs) c ys q s d = quiet_at (x == 32) xs c ys (both_true _ _ q).1 s d

-- nor in a front
pub quiet_front : (before : Bool) (xs ys : List ℕ) → quiet before (xs ++ ys) ≡ true → quiet before xs ≡ true
quiet_front before [] ys q = refl
quiet_front before (x ∷ xs) ys q =
    let parts = both_true (not (before && is_digit x)) _ q in rw (parts.0, quiet_front (x == 32) xs ys parts.1) refl

-- a space at the end of two lists is one at the end of the second, where that has bytes
pub after_space_second : (before : Bool) (xs ys before_last : List ℕ) → xs ++ ys ≡ before_last ++ codes " " → after_space true ys ≡ true
after_space_second before xs ys zs e = in_second true xs ys (rw e (ends zs true))
  where
    ends : (zs : List ℕ) (b : Bool) → after_space b (zs ++ codes " ") ≡ true
    ends [] b = refl
    ends (z ∷ zs) b = ends zs (z == 32)

    any : (b : Bool) (ys : List ℕ) → after_space b ys ≡ true → after_space true ys ≡ true
    any b [] h = refl
    any b (y ∷ ys) h = h

    in_second : (b : Bool) (xs ys : List ℕ) → after_space b (xs ++ ys) ≡ true → after_space true ys ≡ true
    in_second b [] ys h = any b ys h
    in_second b (x ∷ xs) ys h = in_second (x == 32) xs ys h

-- no number begins in quiet bytes
pub no_number : (front xs : List ℕ) (c : ℕ) (ys rest : List ℕ) → quiet true (xs ++ c ∷ ys) ≡ true → NumberBegins (front ++ xs) (c ∷ ys ++ rest) → ⊥
no_number front xs c ys rest q n =
    let here = n.here in
    let same : c ≡ n.digit = cc in
    quiet_at true xs c ys q (after_space_second true front xs n.before n.space) (rw same n.valid)

-- ---- the next stage

module _ (nets : ℕ) (front rest w : List ℕ) (K G : List ℕ → Type 0) (stage : Stage nets front (w ++ rest) K G) where
  -- a text of the shape goes on so
  begins : (tail : List ℕ) → K (w ++ tail) → BeginsNetText (front ++ w)
  begins tail k = (tail, rw append_assoc (stage.back (w ++ tail) k))

  -- no code stands in these bytes
  none_in : (tail : List ℕ) → K (w ++ tail)
      → ((xs : List ℕ) (c : ℕ) (ys : List ℕ) → w ≡ xs ++ c ∷ ys → K xs → ⊥)
      → ((xs : List ℕ) (c : ℕ) (ys : List ℕ) → w ≡ xs ++ c ∷ ys → NetCodeStands N2 (front ++ xs) (c ∷ ys ++ rest) → ⊥)
      → ((xs : List ℕ) (c : ℕ) (ys : List ℕ) → w ≡ xs ++ c ∷ ys → NetCodeStands N5 (front ++ xs) (c ∷ ys ++ rest) → ⊥)
      → (code : NetCode) (xs : List ℕ) (c : ℕ) (ys : List ℕ) → w ≡ xs ++ c ∷ ys → NetCodeStands code (front ++ xs) (c ∷ ys ++ rest) → ⊥
  none_in tail k whole two five N1 xs c ys e s =
      let same : front ++ w ≡ ((front ++ xs) ++ c ∷ []) ++ ys =
      ap (λ l. front ++ l) e ∙ sym (append_assoc front xs (c ∷ ys)) ∙ sym (append_assoc (front ++ xs) (c ∷ []) ys) in
      s.2 c (ys ++ rest) refl (begins_front ((front ++ xs) ++ c ∷ []) ys (subst BeginsNetText same (begins tail k)))
  none_in tail k whole two five N2 xs c ys e s = two xs c ys e s
  none_in tail k whole two five N3 xs c ys e s = s
  none_in tail k whole two five N4 xs c ys e s = s
  none_in tail k whole two five N5 xs c ys e s = five xs c ys e s
  none_in tail k whole two five N6 xs c ys e s = whole xs c ys e (stage.to xs s.0)

  pub advance : (tail : List ℕ) → K (w ++ tail)
      → ((xs : List ℕ) (c : ℕ) (ys : List ℕ) → w ≡ xs ++ c ∷ ys → K xs → ⊥)
      → ((xs : List ℕ) (c : ℕ) (ys : List ℕ) → w ≡ xs ++ c ∷ ys → NetCodeStands N2 (front ++ xs) (c ∷ ys ++ rest) → ⊥)
      → ((xs : List ℕ) (c : ℕ) (ys : List ℕ) → w ≡ xs ++ c ∷ ys → NetCodeStands N5 (front ++ xs) (c ∷ ys ++ rest) → ⊥)
      → Stage nets (front ++ w) rest (λ tail. K (w ++ tail)) (λ tail. G (w ++ tail))
  advance tail k whole two five = record {
    to = λ tail s. stage.to (w ++ tail) (subst Shaped (append_assoc front w tail) s);
    back = λ tail k. subst Shaped (sym (append_assoc front w tail)) (stage.back (w ++ tail) k);
    ranged = λ tail s. stage.ranged (w ++ tail) (subst (InRange nets) (append_assoc front w tail) s);
    tail = tail;
    some = k;
    clear = clear;
  }
    where
      clear : NoCodeWithin (front ++ w) rest
      clear code before c others e s = by_place (cuts front w before (c ∷ others) e)
        where
          by_place : Cuts front w before (c ∷ others) → ⊥
          by_place (Cuts.same p q) =
              none_in tail k whole two five code [] c others q (subst (λ l. NetCodeStands code l (c ∷ others ++ rest)) (sym p ∙ sym (append-nil front)) s)
          by_place (Cuts.before d vs p q) =
              none_in tail k whole two five code (d ∷ vs) c others q (subst (λ l. NetCodeStands code l (c ∷ others ++ rest)) p s)
          by_place (Cuts.behind d vs p q) =
              stage.clear code before d vs p (stands d vs q)
            where
              stands : (d : ℕ) (vs : List ℕ) → c ∷ others ≡ d ∷ vs ++ w → NetCodeStands code before (d ∷ vs ++ (w ++ rest))
              stands d vs q = subst (λ l. NetCodeStands code before l) (ap (λ l. l ++ rest) q ∙ append_assoc (d ∷ vs) w rest) s

-- the same stage, in other words
pub restage : {K L G H : List ℕ → Type 0} (nets : ℕ) (front rest : List ℕ) → Stage nets front rest K G → ((tail : List ℕ) → K tail → L tail)
    → ((tail : List ℕ) → L tail → K tail) → ((tail : List ℕ) → G tail → H tail) → Stage nets front rest L H
restage nets front rest stage there back ranged = record {
  to = λ tail s. there tail (stage.to tail s);
  back = λ tail l. stage.back tail (back tail l);
  ranged = λ tail s. ranged tail (stage.ranged tail s);
  tail = stage.tail;
  some = there _ stage.some;
  clear = stage.clear;
}

-- ---- a first fault

-- The code is the first that stands, behind the front, and the text is no network's.
pub record Stops (nets : ℕ) (code : NetCode) (front rest : List ℕ) : Type 0 where
  pub stands : NetCodeStands code front rest
  pub first : NoCodeWithin front rest
  pub refuted : InRange nets (front ++ rest) → ⊥
