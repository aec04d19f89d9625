-- The edge that crosses a border is the only one that does.
use Rattle.std.proofs.Common.{◌≡◌, ◌≢◌, ℕ, zero, suc, ◌+◌, ◌<◌, ◌≤◌, ◌⊎◌, inl, inr, Bool, true, false, nat_lt, cond, Option, Some, None, List, [], ◌∷◌, length, get_or, refl, sym, ap, subst, ◌∙◌, arith}
use Rattle.std.specs.List.{find}
use Rattle.std.proofs.lemmas.Bool.Decides.{nat_tests}
use Rattle.std.proofs.lemmas.List.{get_or_default}
use Rattle.block_grid.specs.Sheets.{DrawnEdge, Sheet, north_of, south_of, west_of, east_of, AreClear, IsSheet}
use Rattle.block_grid.specs.Bundles.{edge_north, edge_west}
use Rattle.block_grid.proofs.Nodes.{find-at}

-- the only element that passes is found
pub only_found : {A : Type 0} (p : A → Bool) (xs : List A) (x : A) (k : ℕ) → k < length xs → ((d : A) → get_or xs k d ≡ x) → p x ≡ true
    → ((j : ℕ) (d : A) → j < length xs → p (get_or xs j d) ≡ true → get_or xs j d ≡ x) → find p xs ≡ Some x
only_found p [] x k lt at passes only = absurd (omega arith)
only_found p (y ∷ ys) x zero lt at passes only = rw (ap p (at x) ∙ passes) (ap (λ z. Some z) (at x))
only_found {A} p (y ∷ ys) x (suc k) lt at passes only =
    elim (p y) as (λ b. p y ≡ b → cond b (Some y) (find p ys) ≡ Some x) [
      | true ↦ λ e. ap (λ z. Some z) (only 0 y (omega arith) e)
      | false ↦ λ e. only_found p ys x k (omega arith) at passes (λ j d h t. only (suc j) d (omega arith) t)
    ] refl

-- the edge is one of the sheet's
pub record IsOne (s : Sheet) (e : DrawnEdge) : Type 0 where
  pub k : ℕ
  pub lt : k < length s.edges
  pub at : (d : DrawnEdge) → get_or s.edges k d ≡ e

pub its_own : (s : Sheet) (j : ℕ) (d : DrawnEdge) → j < length s.edges → IsOne s (get_or s.edges j d)
its_own s j d lt = record { k = j; lt = lt; at = λ x. get_or_default s.edges j x d lt }

pub positive : (n : ℕ) → nat_lt 0 n ≡ true → 0 < n
positive n e = grind (arith, nat_tests)

pub tested : (n : ℕ) → 0 < n → nat_lt 0 n ≡ true
tested n h = grind (arith, nat_tests)

three : (i j : ℕ) → (i ≡ j) ⊎ (i < j) ⊎ (j < i)
three i j = elim (nat_lt i j) as (λ x. nat_lt i j ≡ x → (i ≡ j) ⊎ (i < j) ⊎ (j < i)) [
  | true ↦ λ e. inr (inl (grind (arith, nat_tests)))
  | false ↦ λ e. elim (nat_lt j i) as (λ y. nat_lt j i ≡ y → (i ≡ j) ⊎ (i < j) ⊎ (j < i)) [
    | true ↦ λ f. inr (inr (grind (arith, nat_tests)))
    | false ↦ λ f. let a : j ≤ i = grind (arith, nat_tests) in let b : i ≤ j = grind (arith, nat_tests) in inl (omega arith)
  ] refl
] refl

module _ (s : Sheet) (sheet : IsSheet s) where
  clear_pair : (e f : DrawnEdge) (a : IsOne s e) (b : IsOne s f) → a.k < b.k → AreClear e f
  clear_pair e f a b less =
      subst (λ x. AreClear x f) (a.at e) (subst (AreClear (get_or s.edges a.k e)) (b.at e) (sheet.clear a.k b.k e less b.lt))

  pub same_or_clear : (e f : DrawnEdge) → IsOne s e → IsOne s f → (e ≡ f) ⊎ (AreClear e f ⊎ AreClear f e)
  same_or_clear e f a b = elim (three a.k b.k) as (λ _. (e ≡ f) ⊎ (AreClear e f ⊎ AreClear f e)) [
    | inl same ↦ inl (sym (a.at e) ∙ ap (λ k. get_or s.edges k e) same ∙ b.at e)
    | inr other ↦ elim other as (λ _. (e ≡ f) ⊎ (AreClear e f ⊎ AreClear f e)) [
      | inl less ↦ inr (inl (clear_pair e f a b less))
      | inr more ↦ inr (inr (clear_pair f e b a more))
    ]
  ]

  pub one_north : (e f : DrawnEdge) → IsOne s e → IsOne s f → (r c : ℕ) → 0 < north_of e r c → 0 < north_of f r c → e ≡ f
  one_north e f a b r c h k = elim (same_or_clear e f a b) as (λ _. e ≡ f) [
    | inl same ↦ same
    | inr other ↦ elim other as (λ _. e ≡ f) [
      | inl x ↦ let z : north_of f r c ≡ 0 = x.north r c h in absurd (omega arith)
      | inr y ↦ let z : north_of e r c ≡ 0 = y.north r c k in absurd (omega arith)
    ]
  ]

  pub one_west : (e f : DrawnEdge) → IsOne s e → IsOne s f → (r c : ℕ) → 0 < west_of e r c → 0 < west_of f r c → e ≡ f
  one_west e f a b r c h k = elim (same_or_clear e f a b) as (λ _. e ≡ f) [
    | inl same ↦ same
    | inr other ↦ elim other as (λ _. e ≡ f) [
      | inl x ↦ let z : west_of f r c ≡ 0 = x.west r c h in absurd (omega arith)
      | inr y ↦ let z : west_of e r c ≡ 0 = y.west r c k in absurd (omega arith)
    ]
  ]

  pub found_north : (e : DrawnEdge) → IsOne s e → (r c : ℕ) → 0 < north_of e r c → edge_north s r c ≡ Some e
  found_north e a r c h =
      only_found (λ x. nat_lt 0 (north_of x r c)) s.edges e a.k a.lt a.at (tested (north_of e r c) h)
      (λ j d lt t. one_north (get_or s.edges j d) e (its_own s j d lt) a r c (positive (north_of (get_or s.edges j d) r c) t) h)

  pub found_west : (e : DrawnEdge) → IsOne s e → (r c : ℕ) → 0 < west_of e r c → edge_west s r c ≡ Some e
  found_west e a r c h =
      only_found (λ x. nat_lt 0 (west_of x r c)) s.edges e a.k a.lt a.at (tested (west_of e r c) h)
      (λ j d lt t. one_west (get_or s.edges j d) e (its_own s j d lt) a r c (positive (west_of (get_or s.edges j d) r c) t) h)

-- what is found crosses
pub crosses_north : (s : Sheet) (r c : ℕ) (e : DrawnEdge) → edge_north s r c ≡ Some e → IsOne s e × (0 < north_of e r c)
crosses_north s r c e is =
    let found = find-at (λ x. nat_lt 0 (north_of x r c)) s.edges e is in
    (record { k = found.0; lt = found.1; at = found.2 }, positive (north_of e r c) found.3)

pub crosses_west : (s : Sheet) (r c : ℕ) (e : DrawnEdge) → edge_west s r c ≡ Some e → IsOne s e × (0 < west_of e r c)
crosses_west s r c e is =
    let found = find-at (λ x. nat_lt 0 (west_of x r c)) s.edges e is in
    (record { k = found.0; lt = found.1; at = found.2 }, positive (west_of e r c) found.3)
