-- The first of a list that passes a test, and the most of a list.
use Rattle.std.proofs.Common.{◌≡◌, ◌⊎◌, inl, inr, ℕ, ◌≤◌, max, nat_le, Bool, true, false, List, [], ◌∷◌, Some, None, refl, sym, ap, ◌∙◌, arith}
use Rattle.std.specs.Prelude.{find}
use Rattle.std.specs.List.{fold}
use Rattle.std.proofs.lemmas.Bool.{leb-true, leb-false}

-- the element is one of these
abbrev pub Among : {X : Type 0} → List X → X → Type 0
Among [] x = ⊥
Among (y ∷ ys) x = (y ≡ x) ⊎ Among ys x

-- none passes where none is found
pub none_passes : {X : Type 0} (p : X → Bool) (xs : List X) (x : X) → find p xs ≡ None → Among xs x → p x ≡ true → ⊥
none_passes p [] x e among t = among
none_passes p (y ∷ ys) x e (inl same) t = let passes : p y ≡ true = ap p same ∙ t in let found : Some y ≡ None = rw passes at e in cc
none_passes p (y ∷ ys) x e (inr later) t = by_test (p y) refl (none_passes p ys x)
  where
    by_test : (b : Bool) → p y ≡ b → (find p ys ≡ None → Among ys x → p x ≡ true → ⊥) → ⊥
    by_test true s rest = let found : Some y ≡ None = rw s at e in cc
    by_test false s rest = rest (rw s at e) later t

-- what is found is one of them and passes
pub found_among : {X : Type 0} (p : X → Bool) (xs : List X) (x : X) → find p xs ≡ Some x → Among xs x × (p x ≡ true)
found_among p [] x e = cc
found_among p (y ∷ ys) x e = by_test (p y) refl (found_among p ys x)
  where
    by_test : (b : Bool) → p y ≡ b → (find p ys ≡ Some x → Among ys x × (p x ≡ true)) → Among (y ∷ ys) x × (p x ≡ true)
    by_test true s rest = let found : Some y ≡ Some x = rw s at e in let same : y ≡ x = cc in (inl same, ap p (sym same) ∙ s)
    by_test false s rest = let (later, passes) = rest (rw s at e) in (inr later, passes)

module _ {X : Type 0} (f : X → ℕ) where
  -- the most of them
  abbrev pub most_of : ℕ → List X → ℕ
  most_of a xs = fold (λ most x. max most (f x)) a xs

  most_grows : (a : ℕ) (xs : List X) → a ≤ most_of a xs
  most_grows a [] = omega arith
  most_grows a (x ∷ xs) = let h = most_grows (max a (f x)) xs in omega (arith, h)

  pub most_at_least : (a : ℕ) (xs : List X) (x : X) → Among xs x → f x ≤ most_of a xs
  most_at_least a [] x among = absurd among
  most_at_least a (y ∷ ys) x (inl same) = let h = most_grows (max a (f y)) ys in let e : f y ≡ f x = ap f same in omega (arith, h, e)
  most_at_least a (y ∷ ys) x (inr later) = most_at_least (max a (f y)) ys x later

  pub most_reached : (a : ℕ) (xs : List X) → (most_of a xs ≡ a) ⊎ ((x : X) × Among xs x × (f x ≡ most_of a xs))
  most_reached a [] = inl refl
  most_reached a (x ∷ xs) = by (most_reached (max a (f x)) xs)
    where
      by : (most_of (max a (f x)) xs ≡ max a (f x)) ⊎ ((y : X) × Among xs y × (f y ≡ most_of (max a (f x)) xs))
          → (most_of a (x ∷ xs) ≡ a) ⊎ ((y : X) × Among (x ∷ xs) y × (f y ≡ most_of a (x ∷ xs)))
      by (inr h) = inr (h.0, inr h.1, h.2)
      by (inl e) = by_order (nat_le (f x) a) refl
        where
          by_order : (b : Bool) → nat_le (f x) a ≡ b → (most_of a (x ∷ xs) ≡ a) ⊎ ((y : X) × Among (x ∷ xs) y × (f y ≡ most_of a (x ∷ xs)))
          by_order true t = let low = leb-true _ _ t in inl (omega (arith, e, low))
          by_order false t = let high = leb-false _ _ t in inr (x, inl refl, omega (arith, e, high))
