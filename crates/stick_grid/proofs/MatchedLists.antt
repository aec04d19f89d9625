-- Lists that a function matches, and the same in another order.
use Rattle.std.proofs.Common.{◌≡◌, List, [], ◌∷◌, ◌++◌, map, Option, Some, None, All, IsPermutation, refl, sym, ap, ◌∙◌, subst}
use Rattle.std.proofs.lemmas.List.Elements.{All-nil, All-cons, All-head, All-tail}
use Rattle.std.proofs.lemmas.List.Sorted.{IsPermutation-sym, IsPermutation-map, All-permutation}
use Rattle.nmos_model.specs.Lists.{Matched}

module _ {X Y : Type 0} (f : X → Option Y) (nothing : Y) where
  -- what the function gives, or else this
  abbrev pub value : X → Y
  value x = elim (f x) [ Some y ↦ y | None ↦ nothing ]

  given : (x : X) (y : Y) → f x ≡ Some y → value x ≡ y
  given x y e = ap (λ (o : Option Y). elim o [ Some z ↦ z | None ↦ nothing ]) e

  pub matched_map : (xs : List X) (ys : List Y) → Matched (λ x y. f x ≡ Some y) xs ys → map value xs ≡ ys
  matched_map [] [] h = refl
  matched_map [] (y ∷ ys) h = absurd h
  matched_map (x ∷ xs) [] h = absurd h
  matched_map (x ∷ xs) (y ∷ ys) h =
      ap (λ z. z ∷ map value xs) (given x y h.0) ∙ ap (λ l. y ∷ l) (matched_map xs ys h.1)

  pub matched_all : (xs : List X) (ys : List Y) → Matched (λ x y. f x ≡ Some y) xs ys → All (λ x. f x ≡ Some (value x)) xs
  matched_all [] [] h = All-nil (λ x. f x ≡ Some (value x))
  matched_all [] (y ∷ ys) h = absurd h
  matched_all (x ∷ xs) [] h = absurd h
  matched_all (x ∷ xs) (y ∷ ys) h =
      All-cons (λ z. f z ≡ Some (value z)) x xs (h.0 ∙ ap (λ z. Some z) (sym (given x y h.0))) (matched_all xs ys h.1)

  pub all_matched : (xs : List X) → All (λ x. f x ≡ Some (value x)) xs → Matched (λ x y. f x ≡ Some y) xs (map value xs)
  all_matched [] h = tt
  all_matched (x ∷ xs) h = (All-head (λ z. f z ≡ Some (value z)) x xs h, all_matched xs (All-tail (λ z. f z ≡ Some (value z)) x xs h))

  -- The same in another order.
  pub matched_permuted : (xs us : List X) (ys : List Y) → Matched (λ x y. f x ≡ Some y) xs ys → IsPermutation xs us
      → Matched (λ x y. f x ≡ Some y) us (map value us) × IsPermutation (map value us) ys
  matched_permuted xs us ys h p = (
    all_matched us (All-permutation (λ x. f x ≡ Some (value x)) xs us p (matched_all xs ys h)),
    subst (IsPermutation (map value us)) (matched_map xs ys h) (IsPermutation-map value us xs (IsPermutation-sym xs us p)),
  )

pub matched_append : {X Y : Type 0} (R : X → Y → Type 0) (xs us : List X) (ys vs : List Y) → Matched R xs ys → Matched R us vs
    → Matched R (xs ++ us) (ys ++ vs)
matched_append R [] us [] vs h k = k
matched_append R [] us (y ∷ ys) vs h k = absurd h
matched_append R (x ∷ xs) us [] vs h k = absurd h
matched_append R (x ∷ xs) us (y ∷ ys) vs h k = (h.0, matched_append R xs us ys vs h.1 k)

pub matched_carried : {X Y V W : Type 0} (R : X → Y → Type 0) (S : V → W → Type 0) (P : X → Type 0) (f : X → V) (g : Y → W)
    → ((x : X) (y : Y) → P x → R x y → S (f x) (g y)) → (xs : List X) (ys : List Y) → All P xs → Matched R xs ys → Matched S (map f xs) (map g ys)
matched_carried R S P f g each [] [] all h = tt
matched_carried R S P f g each [] (y ∷ ys) all h = absurd h
matched_carried R S P f g each (x ∷ xs) [] all h = absurd h
matched_carried R S P f g each (x ∷ xs) (y ∷ ys) all h =
    (each x y (All-head P x xs all) h.0, matched_carried R S P f g each xs ys (All-tail P x xs all) h.1)
