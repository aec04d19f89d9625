-- What the search tells in the sorted copy is so of the nets.
use Rattle.std.proofs.Common.{◌≡◌, ◌==◌, ℕ, List, get_or, Result, Ok, Err, sym, ap, subst, ◌∙◌, arith}
use Rattle.std.specs.List.{list_any}
use Rattle.std.specs.List.Sorted.{IsNonDecreasing, IsBinarySearchResult}
use Rattle.std.specs.Ordering.{nat_cmp}
use Rattle.std.specs.Result.{MatchResult, is_ok}
use Rattle.std.proofs.lemmas.Bool.{eq-eqb, ne_eqb, cases_lt}
use Rattle.std.proofs.lemmas.List.Elements.{All-from_get_or}
use Rattle.std.proofs.lemmas.List.Folds.{list_any_at, list_any_none}
use Rattle.std.proofs.lemmas.List.Sorted.{searched}
use Rattle.std.proofs.Common.{◌<◌, ◌≤◌, length, false, inl, inr}
use Rattle.gate_matrix.proofs.gated.Gated.has.Goals as goal

told : (xs : List ℕ) (x : ℕ) (r : Result ℕ ℕ) → IsBinarySearchResult (λ y. nat_cmp y x) xs r → IsNonDecreasing xs
    → is_ok r ≡ list_any (λ one. one == x) xs
told xs x r position up = by r (searched xs x r position (λ i j le lt. up i j 0 le lt))
  where
    apart : (end : ℕ) → ((k : ℕ) → k < end → get_or xs k 0 < x) → ((k : ℕ) → end ≤ k → k < length xs → x < get_or xs k 0)
        → (k : ℕ) → k < length xs → (get_or xs k 0 == x) ≡ false
    apart end before behind k lt = elim (cases_lt k end) [
      | inl first ↦ ne_eqb (get_or xs k 0) x (λ e. let less = before k first in omega (arith, less, e))
      | inr later ↦ ne_eqb (get_or xs k 0) x (λ e. let more = behind k later lt in omega (arith, more, e))
    ]

    by : (r : Result ℕ ℕ) → MatchResult r (λ i. (i < length xs) × (get_or xs i 0 ≡ x))
        (λ i. (i ≤ length xs) × ((k : ℕ) → k < i → get_or xs k 0 < x) × ((k : ℕ) → i ≤ k → k < length xs → x < get_or xs k 0))
        → is_ok r ≡ list_any (λ one. one == x) xs
    by (Ok i) found = sym (list_any_at (λ one. one == x) xs i 0 found.0 (eq-eqb (get_or xs i 0) x found.1))
    by (Err end) none = sym (list_any_none (λ one. one == x) xs (All-from_get_or (λ y. (y == x) ≡ false) xs 0 (apart end none.1 none.2)))

pub returns : goal.returns
returns c =
    let test = λ (one : ℕ). one == c.args.net in
    let up = subst IsNonDecreasing (sym c.deref.ensures.value) c.self.invariant.rising in
    c.is_ok.ensures.value ∙ told c.deref.result.now c.args.net c.binary_search.result c.binary_search.ensures.position up
    ∙ ap (list_any test) c.deref.ensures.value ∙ c.self.invariant.same c.args.net ∙ ap (list_any test) c.self.view_is
