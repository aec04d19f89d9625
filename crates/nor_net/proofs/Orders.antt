-- An order of distinct nets is no longer than there are nets.
use Rattle.std.proofs.Common.{◌≡◌, ◌≢◌, inl, inr, ℕ, zero, suc, ◌<◌, ◌≤◌, ◌==◌, true, false, List, [], ◌∷◌, length, All, AllPairs, sym, subst, arith, eqb-true}
use Rattle.std.specs.List.{AllByRecursion, IsDistinct, list_any}
use Rattle.std.proofs.lemmas.Bool.{ne_eqb, or_cases}
use Rattle.std.proofs.lemmas.List.Elements.{recursion_from_All}
use Rattle.std.proofs.lemmas.Map.Steps.{length-le_from_distinct_below}

-- numbers of which no two are equal
pub distinct_from : (xs : List ℕ) → AllPairs (λ a b. a ≢ b) xs → IsDistinct ◌==◌ xs
unfolding IsDistinct
distinct_from [] h = tt
distinct_from (x ∷ xs) h = (
  recursion_from_All (λ y. (x == y) ≡ false) xs (λ k d lt. ne_eqb x _ (h zero (suc k) d (omega arith) (omega arith))),
  distinct_from xs (λ i j d l lt. h (suc i) (suc j) d (omega arith) (omega arith)),
)

pub any_below : (n : ℕ) (xs : List ℕ) → AllByRecursion (λ x. x < n) xs → (q : ℕ) → list_any (λ y. q == y) xs ≡ true → q < n
any_below n [] h q e = absurd (cc)
any_below n (x ∷ xs) h q e =
    elim (or_cases _ _ e) [
      | inl here ↦ subst (λ m. m < n) (sym (eqb-true q x here)) h.0
      | inr later ↦ any_below n xs h.1 q later
    ]

pub few_in_order : (n : ℕ) (xs : List ℕ) → All (λ x. x < n) xs → AllPairs (λ a b. a ≢ b) xs → length xs ≤ n
few_in_order n xs below distinct =
    length-le_from_distinct_below xs n (distinct_from xs distinct) (any_below n xs (recursion_from_All (λ x. x < n) xs below))
