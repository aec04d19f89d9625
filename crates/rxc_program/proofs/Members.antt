-- What holds of each element of a list holds of one among them.
use Rattle.std.proofs.Common.{◌≡◌, ◌⊎◌, inl, inr, ℕ, zero, suc, List, [], ◌∷◌, ◌++◌, map, flat_map, slice_get, Some, All, refl, subst, arith}
use Rattle.std.specs.List.{AllByRecursion}
use Rattle.std.proofs.lemmas.List.Elements.{All-from_recursion}
use Rattle.geom.specs.Rows.{Among}

pub each_of : {X : Type 0} (P : X → Type 0) (xs : List X) → All P xs → (x : X) → Among xs x → P x
each_of P [] all x among = absurd among
each_of P (y ∷ ys) all x (inl is) = subst P is (all 0 y (omega arith))
each_of P (y ∷ ys) all x (inr among) = each_of P ys (λ i d below. all (suc i) d (omega (arith, below))) x among

-- the element with a number is among them
pub numbered_among : {X : Type 0} (xs : List X) (k : ℕ) (x : X) → slice_get xs k ≡ Some x → Among xs x
numbered_among [] k x is = cc
numbered_among (y ∷ ys) zero x is = inl cc
numbered_among (y ∷ ys) (suc k) x is = inr (numbered_among ys k x is)

-- one among two lists is among one of them
either_among : {X : Type 0} (xs ys : List X) (x : X) → Among (xs ++ ys) x → Among xs x ⊎ Among ys x
either_among [] ys x among = inr among
either_among (y ∷ xs) ys x (inl is) = inl (inl is)
either_among (y ∷ xs) ys x (inr among) = elim (either_among xs ys x among) [ inl here ↦ inl (inr here) | inr there ↦ inr there ]

-- one among the images is that of one of them
pub image_among : {X Y : Type 0} (f : X → Y) (xs : List X) (y : Y) → Among (map f xs) y → (x : X) × Among xs x × (f x ≡ y)
image_among f [] y among = absurd among
image_among f (x ∷ xs) y (inl is) = (x, inl refl, is)
image_among f (x ∷ xs) y (inr among) = let later = image_among f xs y among in (later.0, inr later.1, later.2)

pub flat_among : {X Y : Type 0} (f : X → List Y) (xs : List X) (y : Y) → Among (flat_map f xs) y → (x : X) × Among xs x × Among (f x) y
flat_among f [] y among = absurd among
flat_among f (x ∷ xs) y among = elim (either_among (f x) (flat_map f xs) y among) [
  | inl here ↦ (x, inl refl, here)
  | inr there ↦ (let later = flat_among f xs y there in (later.0, inr later.1, later.2))
]

each_by : {X : Type 0} (P : X → Type 0) (xs : List X) → ((x : X) → Among xs x → P x) → AllByRecursion P xs
each_by P [] each = tt
each_by P (x ∷ xs) each = (each x (inl refl), each_by P xs (λ y among. each y (inr among)))

-- what holds of each among them holds of each element
pub all_of : {X : Type 0} (P : X → Type 0) (xs : List X) → ((x : X) → Among xs x → P x) → All P xs
all_of P xs each = All-from_recursion P xs (each_by P xs each)
