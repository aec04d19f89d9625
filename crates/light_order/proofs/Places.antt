-- Where a number stands in a list that has it once.
use Rattle.std.proofs.Common.{◌≡◌, ◌∙◌, ◌⊎◌, ℕ, suc, ◌+◌, ◌<◌, not, ◌==◌, cond, Some, List, [], ◌∷◌, ◌++◌, length, count_by, refl, sym, ap, inl, inr, arith, length-append}
use Rattle.std.specs.List.{position_or_len}
use Rattle.std.proofs.lemmas.Bool.{cases_eq, eq-eqb, ne_eqb, lt-ltb, cond-true}
use Rattle.std.proofs.lemmas.List.Sums.{sum_by-cons, sum_by-append}
use Rattle.light_order.specs.Crossings.{number_of}
use Rattle.light_order.proofs.Uses.{is_hit, not_hit}

first_by : (v x : ℕ) (front back : List ℕ) → (v ≡ x) ⊎ (v ≡ x → ⊥) → count_by (λ y. y == v) (x ∷ (front ++ v ∷ back)) ≡ 1
    → (count_by (λ y. y == v) (front ++ v ∷ back) ≡ 1 → position_or_len (λ y. y == v) (front ++ v ∷ back) ≡ length front)
    → position_or_len (λ y. y == v) (x ∷ (front ++ v ∷ back)) ≡ suc (length front)
first_by v x front back (inl e) one rec = absurd (omega (
  arith,
  one,
  sum_by-cons (λ y. cond (y == v) 1 0) x (front ++ v ∷ back),
  sum_by-append (λ y. cond (y == v) 1 0) front (v ∷ back),
  sum_by-cons (λ y. cond (y == v) 1 0) v back,
  is_hit x v e,
  is_hit v v refl,
))
first_by v x front back (inr ne) one rec =
    ap (λ b. cond (not b) (1 + position_or_len (λ y. y == v) (front ++ v ∷ back)) 0) (ne_eqb x v (λ e. ne (sym e)))
    ∙ ap (λ n. 1 + n) (rec (omega (arith, one, sum_by-cons (λ y. cond (y == v) 1 0) x (front ++ v ∷ back), not_hit x v ne)))
    ∙ omega arith

first_at : (v : ℕ) (front back : List ℕ) → count_by (λ y. y == v) (front ++ v ∷ back) ≡ 1 → position_or_len (λ y. y == v) (front ++ v ∷ back) ≡ length front
first_at v [] back one = ap (λ b. cond (not b) (1 + position_or_len (λ y. y == v) back) 0) (eq-eqb v v refl)
first_at v (x ∷ front) back one = first_by v x front back (cases_eq v x) one (λ h. first_at v front back h)

pub number_at : (v : ℕ) (front back : List ℕ) → count_by (λ y. y == v) (front ++ v ∷ back) ≡ 1 → number_of (front ++ v ∷ back) v ≡ Some (length front)
number_at v front back one =
    let e : position_or_len (λ y. y == v) (front ++ v ∷ back) ≡ length front = first_at v front back one in
    let lt : position_or_len (λ y. y == v) (front ++ v ∷ back) < length (front ++ v ∷ back) = omega (arith, e, length-append front (v ∷ back)) in
    cond-true _ _ _ (lt-ltb _ _ lt) ∙ ap (λ n. Some n) e
