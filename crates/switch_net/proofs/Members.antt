-- Membership in a list by recursion, and what lists make of it.
use Rattle.std.proofs.Common.{◌≡◌, ◌⊎◌, ℕ, zero, suc, ◌<◌, List, [], ◌∷◌, ◌++◌, map, flat_map, Contains, length, slice_index_or, refl, ap, ◌∙◌, inl, inr, arith}

module _ {X : Type 0} where
  -- x is an element of the list
  abbrev pub In : X → List X → Type 0
  In x [] = ⊥
  In x (y ∷ ys) = (y ≡ x) ⊎ In x ys

  at_in : (x : X) (xs : List X) (k : ℕ) → k < length xs → slice_index_or xs k x ≡ x → In x xs
  at_in x [] k below e = absurd (omega arith)
  at_in x (y ∷ ys) zero below e = inl e
  at_in x (y ∷ ys) (suc k) below e = inr (at_in x ys k (omega arith) e)

  pub contains_in : (x : X) (xs : List X) → Contains xs x → In x xs
  contains_in x xs h = at_in x xs h.0 h.1 h.2

  pub in_contains : (x : X) (xs : List X) → In x xs → Contains xs x
  in_contains x [] h = absurd h
  in_contains x (y ∷ ys) (inl e) = (0, omega arith, e)
  in_contains x (y ∷ ys) (inr h) =
      let later = in_contains x ys h in
      (suc later.0, omega arith, later.2)

  pub in_left : (x : X) (xs ys : List X) → In x xs → In x (xs ++ ys)
  in_left x [] ys h = absurd h
  in_left x (y ∷ xs) ys (inl e) = inl e
  in_left x (y ∷ xs) ys (inr h) = inr (in_left x xs ys h)

  pub in_right : (x : X) (xs ys : List X) → In x ys → In x (xs ++ ys)
  in_right x [] ys h = h
  in_right x (y ∷ xs) ys h = inr (in_right x xs ys h)

  pub in_either : (x : X) (xs ys : List X) → In x (xs ++ ys) → In x xs ⊎ In x ys
  in_either x [] ys h = inr h
  in_either x (y ∷ xs) ys (inl e) = inl (inl e)
  in_either x (y ∷ xs) ys (inr h) = elim (in_either x xs ys h) [ inl l ↦ inl (inr l) | inr r ↦ inr r ]

module _ {X Y : Type 0} where
  pub in_map : (f : X → Y) (x : X) (xs : List X) → In x xs → In (f x) (map f xs)
  in_map f x [] h = absurd h
  in_map f x (y ∷ xs) (inl e) = inl (ap f e)
  in_map f x (y ∷ xs) (inr h) = inr (in_map f x xs h)

  pub map_in : (f : X → Y) (y : Y) (xs : List X) → In y (map f xs) → (x : X) × In x xs × (f x ≡ y)
  map_in f y [] h = absurd h
  map_in f y (x ∷ xs) (inl e) = (x, inl refl, e)
  map_in f y (x ∷ xs) (inr h) = let later = map_in f y xs h in (later.0, inr later.1, later.2)

  pub in_flat : (h : X → List Y) (x : X) (y : Y) (xs : List X) → In x xs → In y (h x) → In y (flat_map h xs)
  in_flat h x y [] at there = absurd at
  in_flat h x y (z ∷ xs) (inl e) there = in_left y (h z) (flat_map h xs) (rw e there)
  in_flat h x y (z ∷ xs) (inr at) there = in_right y (h z) (flat_map h xs) (in_flat h x y xs at there)

  pub flat_in : (h : X → List Y) (y : Y) (xs : List X) → In y (flat_map h xs) → (x : X) × In x xs × In y (h x)
  flat_in h y [] at = absurd at
  flat_in h y (x ∷ xs) at =
      elim (in_either y (h x) (flat_map h xs) at) [
        | inl here ↦ (x, inl refl, here)
        | inr later ↦ let rest = flat_in h y xs later in (rest.0, inr rest.1, rest.2)
      ]

  -- functions that agree at the elements map them alike
  pub map_agree : (f g : X → Y) (xs : List X) → ((x : X) → In x xs → f x ≡ g x) → map f xs ≡ map g xs
  map_agree f g [] h = refl
  map_agree f g (x ∷ xs) h =
      ap (λ y. y ∷ map f xs) (h x (inl refl)) ∙ ap (λ ys. g x ∷ ys) (map_agree f g xs (λ z at. h z (inr at)))

pub map-self : {X : Type 0} (f : X → X) (xs : List X) → ((x : X) → In x xs → f x ≡ x) → map f xs ≡ xs
map-self f [] h = refl
map-self f (x ∷ xs) h =
    ap (λ y. y ∷ map f xs) (h x (inl refl)) ∙ ap (λ ys. x ∷ ys) (map-self f xs (λ z at. h z (inr at)))
