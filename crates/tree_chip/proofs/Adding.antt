-- One more gate, as at the steps of the loops that add gates.
use Rattle.std.specs.Prelude.{flat_map}
use Rattle.std.proofs.Common.{◌≡◌, ℕ, zero, suc, ◌+◌, List, [], ◌∷◌, ◌++◌, append_assoc, map, refl, ap, sym, ◌∙◌, arith}
use Rattle.std.specs.List.{range_with_len}
use Rattle.std.proofs.lemmas.List.{map-append, append-nil}
use Rattle.std.proofs.lemmas.List.Concat.{flat_map-append}

range_next : (a n : ℕ) → range_with_len a (suc n) ≡ range_with_len a n ++ (a + n) ∷ []
range_next a zero = let e : a + 0 ≡ a = omega arith in rw e refl
range_next a (suc n) =
    let e : a + suc n ≡ a + 1 + n = omega arith in
    rw e (ap (λ (xs : List ℕ). a ∷ xs) (range_next (a + 1) n))

pub range_one : (a i : ℕ) → range_with_len a (i + 1) ≡ range_with_len a i ++ (a + i) ∷ []
range_one a i = let e : i + 1 ≡ suc i = omega arith in rw e (range_next a i)

range_more : (i : ℕ) → range_with_len 0 (i + 1) ≡ range_with_len 0 i ++ i ∷ []
range_more i = let z : 0 + i ≡ i = omega arith in range_one 0 i ∙ rw z refl

module _ {X : Type 0} where
  -- the pieces of one number more
  pub pieces_more : (f : ℕ → List X) (i : ℕ) → flat_map f (range_with_len 0 (i + 1)) ≡ flat_map f (range_with_len 0 i) ++ f i
  pieces_more f i =
      rw (range_more i) (flat_map-append f (range_with_len 0 i) (i ∷ [])
      ∙ ap (λ (xs : List X). flat_map f (range_with_len 0 i) ++ xs) (append-nil (f i)))

  -- and the element
  pub one_more : (f : ℕ → X) (i : ℕ) → map f (range_with_len 0 (i + 1)) ≡ map f (range_with_len 0 i) ++ f i ∷ []
  one_more f i = rw (range_more i) (map-append f (range_with_len 0 i) (i ∷ []))

  -- a list is what there was and the images of some, and gains the images of further ones
  pub gains : {W : Type 0} (n : W → X) (start now later : List X) (some new all : List W) → now ≡ start ++ map n some
      → later ≡ now ++ map n new → all ≡ some ++ new → later ≡ start ++ map n all
  gains n start now later some new all before step whole =
      step ∙ rw (before, whole) (append_assoc start _ (map n new) ∙ ap (λ (xs : List X). start ++ xs) (sym (map-append n some new)))

  -- a list is what there was and some more, and gains further ones
  pub extends : (start now later some new all : List X) → now ≡ start ++ some → later ≡ now ++ new → all ≡ some ++ new → later ≡ start ++ all
  extends start now later some new all before step whole = step ∙ rw (before, whole) (append_assoc start some new)
