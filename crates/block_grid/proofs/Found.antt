-- The first element that passes a test, in a list of images.
use Rattle.std.proofs.Common.{◌≡◌, Bool, true, false, cond, Some, None, List, [], ◌∷◌, map, refl}
use Rattle.std.specs.List.{find}
use Rattle.std.specs.Option.{option_map}

pub find-map : {A B : Type 0} (h : A → B) (p : B → Bool) (q : A → Bool) → ((x : A) → p (h x) ≡ q x) → (xs : List A) →
    find p (map h xs) ≡ option_map h (find q xs)
find-map h p q same [] = refl
find-map h p q same (x ∷ xs) = rw (
  same x,
  find-map h p q same xs,
) (elim (q x) as (λ b. cond b (Some (h x)) (option_map h (find q xs)) ≡ option_map h (cond b (Some x)
    (find q xs))) [ true ↦ refl | false ↦ refl ])

pub find-none : {A B : Type 0} (h : A → B) (p : B → Bool) → ((x : A) → p (h x) ≡ false) → (xs : List A) → find p (map h xs) ≡ None
find-none h p off [] = refl
find-none h p off (x ∷ xs) = rw (off x) (find-none h p off xs)
