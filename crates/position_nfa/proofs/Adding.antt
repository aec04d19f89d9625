-- One more element, as at the steps of the loops that add gates and nets.
use Rattle.std.specs.Prelude.{flat_map}
use Rattle.std.proofs.Common.{◌≡◌, ℕ, zero, suc, ◌+◌, ◌<◌, List, [], ◌∷◌, ◌++◌, append_assoc, map, length, slice_index_or, refl, ap, ◌∙◌, arith}
use Rattle.std.specs.List.{range_with_len}
use Rattle.std.proofs.lemmas.List.{map-append, append-nil}
use Rattle.std.proofs.lemmas.List.Concat.{flat_map-append}

range_next : (a n : ℕ) → range_with_len a (suc n) ≡ range_with_len a n ++ (a + n) ∷ []
range_next a zero = let e : a + 0 ≡ a = omega arith in rw e refl
range_next a (suc n) =
    let e : a + suc n ≡ a + 1 + n = omega arith in
    rw e (ap (λ (xs : List ℕ). a ∷ xs) (range_next (a + 1) n))

range_more : (i : ℕ) → range_with_len 0 (i + 1) ≡ range_with_len 0 i ++ i ∷ []
range_more i =
    let z : 0 + i ≡ i = omega arith in
    let e : i + 1 ≡ suc i = omega arith in
    rw e (range_next 0 i ∙ rw z refl)

module _ {X : Type 0} where
  -- the pieces of one number more
  pub pieces_more : (f : ℕ → List X) (i : ℕ) → flat_map f (range_with_len 0 (i + 1)) ≡ flat_map f (range_with_len 0 i) ++ f i
  pieces_more f i =
      rw (range_more i) (flat_map-append f (range_with_len 0 i) (i ∷ [])
      ∙ ap (λ (xs : List X). flat_map f (range_with_len 0 i) ++ xs) (append-nil (f i)))

  -- and the element
  pub one_more : (f : ℕ → X) (i : ℕ) → map f (range_with_len 0 (i + 1)) ≡ map f (range_with_len 0 i) ++ f i ∷ []
  one_more f i = rw (range_more i) (map-append f (range_with_len 0 i) (i ∷ []))

  -- a list is what there was and some more, and gains further ones
  pub extends : (start now later some new all : List X) → now ≡ start ++ some → later ≡ now ++ new → all ≡ some ++ new → later ≡ start ++ all
  extends start now later some new all before step whole = step ∙ rw (before, whole) (append_assoc start some new)

  -- an element of an image
  pub image_at : {W : Type 0} (f : W → X) (ws : List W) (k : ℕ) (d : W) (e : X) → k < length ws → slice_index_or (map f ws) k e ≡ f (slice_index_or ws k d)
  image_at f [] k d e lt = absurd (omega (arith, lt))
  image_at f (w ∷ ws) zero d e lt = refl
  image_at f (w ∷ ws) (suc k) d e lt = image_at f ws k d e (omega (arith, lt))

  pub map_ext : {W : Type 0} (f g : W → X) → ((w : W) → f w ≡ g w) → (ws : List W) → map f ws ≡ map g ws
  map_ext f g h [] = refl
  map_ext f g h (w ∷ ws) = rw (h w, map_ext f g h ws) refl
