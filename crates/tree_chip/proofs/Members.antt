-- Elements of lists, found by recursion.
use Rattle.std.proofs.Common.{◌≡◌, ℕ, zero, suc, ◌+◌, ◌<◌, ◌≤◌, ◌⊎◌, inl, inr, Bool, true, false, cond, ◌==◌, Some, List, [], ◌∷◌, ◌++◌, map, length, get_or, All, count_by, Contains, IsPermutation, refl, sym, ap, subst, ◌∙◌, arith}
use Rattle.std.specs.Prelude.{flat_map, find}
use Rattle.std.specs.List.{AllByRecursion, range_with_len}
use Rattle.std.proofs.lemmas.Bool.{cases_lt, eqb-true}
use Rattle.std.proofs.lemmas.List.{get_or_default}
use Rattle.std.proofs.lemmas.List.Elements.{All-from_recursion}
use Rattle.std.proofs.lemmas.List.Sorted.{Contains-permutation}
use Rattle.std.proofs.lemmas.List.Sums.{sum_by-cons}
use Rattle.geom.specs.Rows.{Among}

module _ {X : Type 0} where
  pub among_at : (xs : List X) (k : ℕ) (x : X) → k < length xs → ((d : X) → get_or xs k d ≡ x) → Among xs x
  among_at [] k x lt at = absurd (omega arith)
  among_at (y ∷ ys) zero x lt at = inl (at x)
  among_at (y ∷ ys) (suc k) x lt at = inr (among_at ys k x (omega arith) at)

  pub among_contained : (xs : List X) (x : X) → Contains xs x → Among xs x
  among_contained xs x h = among_at xs h.0 x h.1 (λ d. get_or_default xs h.0 d x h.1 ∙ h.2)

  pub contains_among : (xs : List X) (x : X) → Among xs x → Contains xs x
  contains_among [] x h = absurd h
  contains_among (y ∷ ys) x (inl e) = (0, omega arith, e)
  contains_among (y ∷ ys) x (inr h) = let k = contains_among ys x h in (suc k.0, omega arith, k.2)

  pub among_permuted : (xs ys : List X) (x : X) → IsPermutation xs ys → Among xs x → Among ys x
  among_permuted xs ys x h m = among_contained ys x (Contains-permutation xs ys x h (contains_among xs x m))

  pub all_among : (P : X → Type 0) (xs : List X) (x : X) → All P xs → Among xs x → P x
  all_among P [] x h m = absurd m
  all_among P (y ∷ ys) x h (inl e) = subst P e (h 0 x (omega arith))
  all_among P (y ∷ ys) x h (inr m) = all_among P ys x (λ k d lt. h (suc k) d (omega arith)) m

  pub all_from_among : (P : X → Type 0) (xs : List X) → ((x : X) → Among xs x → P x) → All P xs
  all_from_among P xs h = All-from_recursion P xs (each xs h)
    where
      each : (ys : List X) → ((x : X) → Among ys x → P x) → AllByRecursion P ys
      each [] k = tt
      each (y ∷ ys) k = (k y (inl refl), each ys (λ x m. k x (inr m)))

  pub among_left : (xs ys : List X) (x : X) → Among xs x → Among (xs ++ ys) x
  among_left [] ys x h = absurd h
  among_left (y ∷ xs) ys x (inl e) = inl e
  among_left (y ∷ xs) ys x (inr h) = inr (among_left xs ys x h)

  pub among_right : (xs ys : List X) (x : X) → Among ys x → Among (xs ++ ys) x
  among_right [] ys x h = h
  among_right (y ∷ xs) ys x h = inr (among_right xs ys x h)

  pub among_append : (xs ys : List X) (x : X) → Among (xs ++ ys) x → Among xs x ⊎ Among ys x
  among_append [] ys x h = inr h
  among_append (y ∷ xs) ys x (inl e) = inl (inl e)
  among_append (y ∷ xs) ys x (inr h) = elim (among_append xs ys x h) as (λ _. Among (y ∷ xs) x ⊎ Among ys x) [
    | inl k ↦ inl (inr k)
    | inr k ↦ inr k
  ]

  -- ---- what is found

  pub found_among : (p : X → Bool) (xs : List X) (x : X) → find p xs ≡ Some x → Among xs x × (p x ≡ true)
  found_among p [] x e = absurd (cc)
  found_among p (y ∷ ys) x e =
      elim (p y) as (λ b. p y ≡ b → cond b (Some y) (find p ys) ≡ Some x → Among (y ∷ ys) x × (p x ≡ true)) [
        | true ↦ λ t f. let same : y ≡ x = cc in (inl same, ap p (sym same) ∙ t)
        | false ↦ λ t f. let k = found_among p ys x f in (inr k.0, k.1)
      ] refl e

  pub some_found : (p : X → Bool) (xs : List X) (x : X) → Among xs x → p x ≡ true → (y : X) × (find p xs ≡ Some y)
  some_found p [] x m t = absurd m
  some_found p (y ∷ ys) x (inl same) t = (y, rw (ap p same ∙ t) refl)
  some_found p (y ∷ ys) x (inr k) t =
      elim (p y) as (λ b. (z : X) × (cond b (Some y) (find p ys) ≡ Some z)) [
        | true ↦ (y, refl)
        | false ↦ some_found p ys x k t
      ]

pub among_map : {X Y : Type 0} (f : X → Y) (xs : List X) (x : X) → Among xs x → Among (map f xs) (f x)
among_map f [] x h = absurd h
among_map f (y ∷ ys) x (inl e) = inl (ap f e)
among_map f (y ∷ ys) x (inr h) = inr (among_map f ys x h)

pub among_mapped : {X Y : Type 0} (f : X → Y) (xs : List X) (y : Y) → Among (map f xs) y → (x : X) × Among xs x × (f x ≡ y)
among_mapped f [] y h = absurd h
among_mapped f (x ∷ xs) y (inl e) = (x, inl refl, e)
among_mapped f (x ∷ xs) y (inr h) = let k = among_mapped f xs y h in (k.0, inr k.1, k.2)

pub among_flat_map : {X Y : Type 0} (f : X → List Y) (xs : List X) (x : X) (y : Y) → Among xs x → Among (f x) y → Among (flat_map f xs) y
among_flat_map f [] x y h k = absurd h
among_flat_map f (z ∷ zs) x y (inl e) k = among_left (f z) (flat_map f zs) y (subst (λ w. Among (f w) y) (sym e) k)
among_flat_map f (z ∷ zs) x y (inr h) k = among_right (f z) (flat_map f zs) y (among_flat_map f zs x y h k)

pub among_flat_mapped : {X Y : Type 0} (f : X → List Y) (xs : List X) (y : Y) → Among (flat_map f xs) y → (x : X) × Among xs x × Among (f x) y
among_flat_mapped f [] y h = absurd h
among_flat_mapped {X} f (z ∷ zs) y h =
    elim (among_append (f z) (flat_map f zs) y h) as (λ _. (x : X) × Among (z ∷ zs) x × Among (f x) y) [
      | inl k ↦ (z, inl refl, k)
      | inr k ↦ let w = among_flat_mapped f zs y k in (w.0, inr w.1, w.2)
    ]

pub among_range : (a n i : ℕ) → a ≤ i → i < a + n → Among (range_with_len a n) i
among_range a zero i low high = absurd (omega arith)
among_range a (suc n) i low high = elim (cases_lt a i) as (λ _. Among (range_with_len a (suc n)) i) [
  | inl h ↦ inr (among_range (a + 1) n i (omega arith) (omega arith))
  | inr h ↦ inl (omega arith)
]

pub among_ranged : (a n i : ℕ) → Among (range_with_len a n) i → (a ≤ i) × (i < a + n)
among_ranged a zero i h = absurd h
among_ranged a (suc n) i (inl e) = (omega arith, omega arith)
among_ranged a (suc n) i (inr h) = let k = among_ranged (a + 1) n i h in (let u = k.0 in omega arith, let v = k.1 in omega arith)

-- what is counted is there
pub among_counted : (xs : List ℕ) (v : ℕ) → 0 < count_by (λ x. x == v) xs → Among xs v
among_counted [] v h = absurd (omega arith)
among_counted (y ∷ ys) v h =
    elim (y == v) as (λ b. (y == v) ≡ b → 0 < cond (y == v) 1 0 + count_by (λ x. x == v) ys → Among (y ∷ ys) v) [
      | true ↦ λ e k. inl (eqb-true y v e)
      | false ↦ λ e k.
          let none : ◌≡◌ {A = ℕ} (cond (y == v) 1 0) 0 = ap (λ (b : Bool). cond b 1 0) e in
          inr (among_counted ys v (omega arith))
    ] refl (subst (λ n. 0 < n) (sum_by-cons (λ x. cond (x == v) 1 0) y ys) h)
