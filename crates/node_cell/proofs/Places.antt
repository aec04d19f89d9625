-- Numbers two apart, from a base on, and which of them a number is.
use Rattle.std.proofs.Common.{◌≡◌, ℕ, zero, suc, ◌+◌, ◌*◌, ◌<◌, ◌≤◌, ◌==◌, inl, inr, Option, Some, None, refl, sym, ap, ◌∙◌, arith}
use Rattle.std.specs.Prelude.{find}
use Rattle.std.specs.List.{range_with_len}
use Rattle.std.proofs.lemmas.Bool.{cases_eq, eq-eqb, ne_eqb}
use Rattle.node_cell.proofs.Choices.{first_of, second_of}

-- which of n numbers, the first of which has the number a, it is
abbrev pub index_from : ℕ → ℕ → ℕ → ℕ → Option ℕ
index_from base x a n = find (λ i. base + 2 * i == x) (range_with_len a n)

-- It is the one with this number, or none.
pub data Where (base n x : ℕ) : Type 0 where
  there : (i : ℕ) → i < n → base + 2 * i ≡ x → Where base n x
  nowhere : ((i : ℕ) → i < n → base + 2 * i ≡ x → ⊥) → Where base n x

pub where_is : (base n x : ℕ) → Where base n x
where_is base zero x = nowhere (λ i few e. omega arith)
where_is base (suc n) x = elim (cases_eq (base + 2 * n) x) [
  | inl h ↦ there n (omega arith) h
  | inr h ↦ elim (where_is base n x) [
    | there i few e ↦ there i (omega arith) e
    | nowhere none ↦ nowhere (λ i few e. elim (cases_eq i n) [
      | inl k ↦ h (ap (λ (j : ℕ). base + 2 * j) (sym k) ∙ e)
      | inr k ↦ none i (omega arith) e
    ])
  ]
]

module _ (base x : ℕ) where
  found_from : (a n i : ℕ) → a ≤ i → i < a + n → base + 2 * i ≡ x → index_from base x a n ≡ Some i
  found_from a zero i low high e = absurd (omega arith)
  found_from a (suc n) i low high e = elim (cases_eq a i) [
    | inl h ↦
        first_of (base + 2 * a == x) (Some a) (index_from base x (a + 1) n) (eq-eqb (base + 2 * a) x (omega arith))
        ∙ ap (λ (k : ℕ). Some k) h
    | inr h ↦
        second_of (base + 2 * a == x) (Some a) (index_from base x (a + 1) n) (ne_eqb (base + 2 * a) x (λ k. h (omega arith)))
        ∙ found_from (a + 1) n i (omega arith) (omega arith) e
  ]

  none_from : (a n : ℕ) → ((i : ℕ) → a ≤ i → i < a + n → base + 2 * i ≡ x → ⊥) → index_from base x a n ≡ None
  none_from a zero none = refl
  none_from a (suc n) none =
      second_of (base + 2 * a == x) (Some a) (index_from base x (a + 1) n) (ne_eqb (base + 2 * a) x (none a (omega arith) (omega arith)))
      ∙ none_from (a + 1) n (λ i low high e. none i (omega arith) (omega arith) e)

pub found : (base n x i : ℕ) → i < n → base + 2 * i ≡ x → index_from base x 0 n ≡ Some i
found base n x i few e = found_from base x 0 n i (omega arith) (omega arith) e

pub none_found : (base n x : ℕ) → ((i : ℕ) → i < n → base + 2 * i ≡ x → ⊥) → index_from base x 0 n ≡ None
none_found base n x none = none_from base x 0 n (λ i low high e. none i (omega arith) e)

-- What is found is the number.
pub is_found : (base n x i : ℕ) → index_from base x 0 n ≡ Some i → (i < n) × (base + 2 * i ≡ x)
is_found base n x i e = elim (where_is base n x) [
  | there j few h ↦
      let same = sym (found base n x j few h) ∙ e in
      let k : j ≡ i = cc in
      (omega arith, omega arith)
  | nowhere none ↦ let other = sym (none_found base n x none) ∙ e in absurd (cc)
]
