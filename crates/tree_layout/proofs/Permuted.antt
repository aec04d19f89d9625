-- Lists over which every sum is the same have the same elements.
use Rattle.std.proofs.Common.{◌≡◌, ℕ, suc, ◌<◌, ◌≤◌, Bool, true, false, cond, List, [], ◌∷◌, length, map, get_or, count_by, sum_by, IsPermutation, refl, ap, arith}
use Rattle.std.specs.List.{remove}
use Rattle.std.proofs.lemmas.List.Sums.{sum_by-cons, sum_by-remove}
use Rattle.std.proofs.lemmas.List.Sorted.{IsPermutation-refl, IsPermutation-sym, IsPermutation-trans, IsPermutation-cons, IsPermutation-remove}

pub sum_map : {A B : Type 0} (f : B → ℕ) (g : A → B) (xs : List A) → sum_by f (map g xs) ≡ sum_by (λ x. f (g x)) xs
sum_map f g [] = refl
sum_map f g (x ∷ xs) = omega (arith, sum_by-cons f (g x) (map g xs), sum_by-cons (λ y. f (g y)) x xs, sum_map f g xs)

module _ {A : Type 0} (eq : A → A → Bool) (own : (x : A) → eq x x ≡ true) (is : (x y : A) → eq x y ≡ true → x ≡ y) where
  -- where an element stands
  record Found (x : A) (ys : List A) : Type 0 where
    at : ℕ
    within : at < length ys
    stands : x ≡ get_or ys at x

  found : (x : A) (ys : List A) → 1 ≤ count_by (eq x) ys → Found x ys
  found x [] h = absurd (omega arith)
  found x (y ∷ ys) h = by (eq x y) refl (found x ys)
    where
      by : (b : Bool) → eq x y ≡ b → (1 ≤ count_by (eq x) ys → Found x ys) → Found x (y ∷ ys)
      by true e rec = record { at = 0; within = omega arith; stands = is x y e }
      by false e rec =
          let n : ◌≡◌ {A = ℕ} (cond (eq x y) 1 0) 0 = ap {B = ℕ} (λ b. cond b 1 0) e in
          let r = rec (omega (arith, h, n, sum_by-cons (λ z. cond (eq x z) 1 0) y ys)) in
          record { at = suc r.at; within = omega (arith, r.within); stands = r.stands }

  pub permuted : (xs ys : List A) → ((f : A → ℕ) → sum_by f xs ≡ sum_by f ys) → IsPermutation xs ys
  permuted [] [] h = IsPermutation-refl []
  permuted [] (y ∷ ys) h = absurd (omega (arith, h (λ x. 1), sum_by-cons (λ (x : A). 1) y ys))
  permuted (x ∷ xs) ys h =
      let one : ◌≡◌ {A = ℕ} (cond (eq x x) 1 0) 1 = ap {B = ℕ} (λ b. cond b 1 0) (own x) in
      let f = found x ys (omega (arith, h (λ y. cond (eq x y) 1 0), sum_by-cons (λ y. cond (eq x y) 1 0) x xs, one)) in
      IsPermutation-trans _ _ _
      (IsPermutation-cons x xs (remove ys f.at) (permuted xs (remove ys f.at)
      (λ g. omega (arith, h g, sum_by-cons g x xs, sum_by-remove g ys f.at x f.within, ap g f.stands))))
      (IsPermutation-sym _ _ (IsPermutation-remove ys f.at x f.within f.stands))
