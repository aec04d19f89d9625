-- Membership and distinctness by recursion on the list.
use Rattle.std.proofs.Common.{◌≡◌, ◌≢◌, ◌⊎◌, ◌↔◌, ℕ, zero, suc, ◌+◌, ◌<◌, List, [], ◌∷◌, ◌++◌, length, refl, sym, ap, ◌∙◌, inl, inr, arith}
use Rattle.std.specs.Prelude.{Contains, AllPairs, slice_index_or, ⊤}

module _ {X : Type 0} where
  abbrev pub In : List X → X → Type 0
  In [] x = ⊥
  In (y ∷ ys) x = (y ≡ x) ⊎ In ys x

  pub in_left : (xs ys : List X) (x : X) → In xs x → In (xs ++ ys) x
  in_left [] ys x h = absurd h
  in_left (y ∷ xs) ys x (inl e) = inl e
  in_left (y ∷ xs) ys x (inr h) = inr (in_left xs ys x h)

  pub in_right : (xs ys : List X) (x : X) → In ys x → In (xs ++ ys) x
  in_right [] ys x h = h
  in_right (y ∷ xs) ys x h = inr (in_right xs ys x h)

  in_more : (y x : X) (xs ys : List X) → In xs x ⊎ In ys x → In (y ∷ xs) x ⊎ In ys x
  in_more y x xs ys (inl h) = inl (inr h)
  in_more y x xs ys (inr h) = inr h

  pub in_cases : (xs ys : List X) (x : X) → In (xs ++ ys) x → In xs x ⊎ In ys x
  in_cases [] ys x h = inr h
  in_cases (y ∷ xs) ys x (inl e) = inl (inl e)
  in_cases (y ∷ xs) ys x (inr h) = in_more y x xs ys (in_cases xs ys x h)

  abbrev pub Distinct : List X → Type 0
  Distinct [] = ⊤
  Distinct (x ∷ xs) = (In xs x → ⊥) × Distinct xs

  -- no element is in both
  abbrev pub Apart : List X → List X → Type 0
  Apart xs ys = (x : X) → In xs x → In ys x → ⊥

  not_here : (x : X) (xs ys : List X) → (In xs x → ⊥) → Apart (x ∷ xs) ys → In xs x ⊎ In ys x → ⊥
  not_here x xs ys n a (inl h) = n h
  not_here x xs ys n a (inr h) = a x (inl refl) h

  pub distinct_append : (xs ys : List X) → Distinct xs → Distinct ys → Apart xs ys → Distinct (xs ++ ys)
  distinct_append [] ys a b apart = b
  distinct_append (x ∷ xs) ys a b apart =
      (λ h. not_here x xs ys a.0 apart (in_cases xs ys x h), distinct_append xs ys a.1 b (λ z i j. apart z (inr i) j))

  pub distinct_left : (xs ys : List X) → Distinct (xs ++ ys) → Distinct xs
  distinct_left [] ys h = tt
  distinct_left (x ∷ xs) ys h = (λ i. h.0 (in_left xs ys x i), distinct_left xs ys h.1)

  pub distinct_right : (xs ys : List X) → Distinct (xs ++ ys) → Distinct ys
  distinct_right [] ys h = h
  distinct_right (x ∷ xs) ys h = distinct_right xs ys h.1

  pub distinct_apart : (xs ys : List X) → Distinct (xs ++ ys) → Apart xs ys
  distinct_apart [] ys h z i j = absurd i
  distinct_apart (x ∷ xs) ys h z (inl e) j = h.0 (in_right xs ys x (rw e j))
  distinct_apart (x ∷ xs) ys h z (inr i) j = distinct_apart xs ys h.1 z i j

  -- the same by index

  pub in_at : (xs : List X) (k : ℕ) (d x : X) → k < length xs → slice_index_or xs k d ≡ x → In xs x
  in_at [] k d x h e = absurd (omega arith)
  in_at (y ∷ xs) zero d x h e = inl e
  in_at (y ∷ xs) (suc k) d x h e = inr (in_at xs k d x (omega arith) e)

  pub in_of : (xs : List X) (x : X) → Contains xs x → In xs x
  in_of xs x c = in_at xs c.0 x x c.1 c.2

  pub of_in : (xs : List X) (x : X) → In xs x → Contains xs x
  of_in [] x h = absurd h
  of_in (y ∷ xs) x (inl e) = (0, omega arith, e)
  of_in (y ∷ xs) x (inr h) = let c : Contains xs x = of_in xs x h in (suc c.0, omega (arith, c.1), c.2)

  pub pairs_differ : (xs : List X) → Distinct xs → AllPairs (λ a b. a ≢ b) xs
  pairs_differ [] h i j d below within = absurd (omega arith)
  pairs_differ (x ∷ xs) h zero zero d below within = absurd (omega arith)
  pairs_differ (x ∷ xs) h zero (suc j) d below within = λ e. h.0 (in_at xs j d x (omega arith) (sym e))
  pairs_differ (x ∷ xs) h (suc i) zero d below within = absurd (omega arith)
  pairs_differ (x ∷ xs) h (suc i) (suc j) d below within = pairs_differ xs h.1 i j d (omega arith) (omega arith)
