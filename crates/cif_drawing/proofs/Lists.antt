-- Lists and their elements.
use Rattle.std.proofs.Common.{◌≡◌, ◌≢◌, ℕ, suc, zero, ◌+◌, ◌<◌, List, [], ◌∷◌, ◌++◌, ◌⊎◌, inl, inr, length, take, drop, get_or, map, refl, sym, ◌∙◌, ap, subst, arith}
use Rattle.std.specs.List.{flat_map}
use Rattle.geom.specs.Rows.{Among}

pub among_cases : {X : Type 0} (m n : List X) (c : X) → Among (m ++ n) c → Among m c ⊎ Among n c
among_cases [] n c h = inr h
among_cases (d ∷ ds) n c (inl e) = inl (inl e)
among_cases (d ∷ ds) n c (inr h) = elim (among_cases ds n c h) [ inl i ↦ inl (inr i) | inr i ↦ inr i ]

pub among_left : {X : Type 0} (m n : List X) (c : X) → Among m c → Among (m ++ n) c
among_left [] n c h = absurd h
among_left (d ∷ ds) n c (inl e) = inl e
among_left (d ∷ ds) n c (inr h) = inr (among_left ds n c h)

pub among_right : {X : Type 0} (m n : List X) (c : X) → Among n c → Among (m ++ n) c
among_right [] n c h = h
among_right (d ∷ ds) n c h = inr (among_right ds n c h)

pub among_at : {X : Type 0} (xs : List X) (i : ℕ) (d : X) → i < length xs → Among xs (get_or xs i d)
among_at [] i d h = absurd (omega arith)
among_at (x ∷ xs) zero d h = inl refl
among_at (x ∷ xs) (suc i) d h = inr (among_at xs i d (omega arith))

pub among_item : {X : Type 0} (xs : List X) (i : ℕ) (x : X) → i < length xs → x ≡ get_or xs i x → Among xs x
among_item {X} xs i x h e = let P : X → Type 0 = λ v. Among xs v in subst P (sym e) (among_at xs i x h)

taken_suc : {X : Type 0} (xs : List X) (i : ℕ) (x : X) → i < length xs → x ≡ get_or xs i x → take (suc i) xs ≡ take i xs ++ x ∷ []
taken_suc [] i x h e = absurd (omega arith)
taken_suc (y ∷ ys) zero x h e = ap (λ v. v ∷ []) (sym e)
taken_suc (y ∷ ys) (suc i) x h e = ap (λ l. y ∷ l) (taken_suc ys i x (omega arith) e)

pub taken_item : {X : Type 0} (xs : List X) (i : ℕ) (x : X) → i < length xs → x ≡ get_or xs i x → take (i + 1) xs ≡ take i xs ++ x ∷ []
taken_item xs i x h e = let n : i + 1 ≡ suc i = omega arith in ap (λ (k : ℕ). take k xs) n ∙ taken_suc xs i x h e

parted_suc : {X : Type 0} (xs : List X) (i : ℕ) (x : X) → i < length xs → x ≡ get_or xs i x → xs ≡ take i xs ++ x ∷ drop (suc i) xs
parted_suc [] i x h e = absurd (omega arith)
parted_suc (y ∷ ys) zero x h e = ap (λ v. v ∷ ys) (sym e)
parted_suc (y ∷ ys) (suc i) x h e = ap (λ l. y ∷ l) (parted_suc ys i x (omega arith) e)

pub parted_item : {X : Type 0} (xs : List X) (i : ℕ) (x : X) → i < length xs → x ≡ get_or xs i x → xs ≡ take i xs ++ x ∷ drop (i + 1) xs
parted_item xs i x h e =
    let n : suc i ≡ i + 1 = omega arith in parted_suc xs i x h e ∙ ap (λ (k : ℕ). take i xs ++ x ∷ drop k xs) n

pub append_nil : {X : Type 0} (xs : List X) → xs ++ [] ≡ xs
append_nil [] = refl
append_nil (x ∷ xs) = ap (λ l. x ∷ l) (append_nil xs)

pub map_map : {X Y Z : Type 0} (f : X → Y) (g : Y → Z) (xs : List X) → map g (map f xs) ≡ map (λ x. g (f x)) xs
map_map f g [] = refl
map_map f g (x ∷ xs) = ap (λ l. g (f x) ∷ l) (map_map f g xs)

-- functions that agree on the elements
pub map_alike : {X Y : Type 0} (f g : X → Y) (xs : List X) → ((x : X) → Among xs x → f x ≡ g x) → map f xs ≡ map g xs
map_alike f g [] h = refl
map_alike f g (x ∷ xs) h =
    ap (λ y. y ∷ map f xs) (h x (inl refl)) ∙ ap (λ l. g x ∷ l) (map_alike f g xs (λ y i. h y (inr i)))

pub flat_map_alike : {X Y : Type 0} (f g : X → List Y) (xs : List X) → ((x : X) → Among xs x → f x ≡ g x) → flat_map f xs ≡ flat_map g xs
flat_map_alike f g [] h = refl
flat_map_alike f g (x ∷ xs) h =
    ap (λ l. l ++ flat_map f xs) (h x (inl refl)) ∙ ap (λ l. g x ++ l) (flat_map_alike f g xs (λ y i. h y (inr i)))

pub among_map : {X Y : Type 0} (f : X → Y) (xs : List X) (y : Y) → Among (map f xs) y → (x : X) × Among xs x × (f x ≡ y)
among_map f [] y i = absurd i
among_map f (x ∷ xs) y (inl e) = (x, inl refl, e)
among_map f (x ∷ xs) y (inr i) = let r = among_map f xs y i in (r.0, inr r.1, r.2)

pub among_flat : {X Y : Type 0} (f : X → List Y) (xs : List X) (y : Y) → Among (flat_map f xs) y → (x : X) × Among xs x × Among (f x) y
among_flat f [] y i = absurd i
among_flat f (x ∷ xs) y i =
    elim (among_cases (f x) (flat_map f xs) y i) [
      | inl j ↦ (x, inl refl, j)
      | inr j ↦ (let r = among_flat f xs y j in (r.0, inr r.1, r.2))
    ]

pub no_map : {X Y : Type 0} (f : X → Y) (xs : List X) → xs ≢ [] → map f xs ≢ []
no_map f [] h e = h refl
no_map f (x ∷ xs) h e = absurd cc

pub no_append : {X : Type 0} (xs ys : List X) → xs ≢ [] → xs ++ ys ≢ []
no_append [] ys h e = h refl
no_append (x ∷ xs) ys h e = absurd cc
