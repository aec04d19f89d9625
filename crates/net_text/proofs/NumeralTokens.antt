-- Numerals of any size in a text.
use Rattle.std.proofs.Common.{rules, ◌≡◌, inl, inr, ℕ, suc, ◌≤◌, true, false, ◌==◌, List, [], ◌∷◌, ◌++◌, take, length, refl, sym, ap, ◌∙◌, arith}
use Rattle.std.proofs.lemmas.Bool.{cases_Bool, leb-true, ne_eqb}
use Rattle.std.proofs.lemmas.List.Sums.{prefix_len-le-length}
use Rattle.std.specs.Prelude.{nat_le}
use Rattle.std.specs.List.{list_all, prefix_len}
use Rattle.rx_text.specs.NumberInText.{is_digit}
use Rattle.net_text.specs.Shape.{IsNumeral, numeral_length}
use Rattle.net_text.proofs.Advancing.{quiet}
use Rattle.net_text.proofs.ReadBack.{both_true}
use Rattle.net_text.proofs.Runs.{run_to, run_past, run_of_class}

-- a digit is no space
digit_no_space : (c : ℕ) → is_digit c ≡ true → (c == 32) ≡ false
digit_no_space c d =
    let parts = both_true (nat_le 48 c) _ d in
    let low : 48 ≤ c = leb-true _ _ parts.0 in
    ne_eqb c 32 (λ e. let same : 48 ≤ 32 = rw e at low in omega (arith, same))

-- a numeral has digits alone
pub numeral_digits : (digits : List ℕ) → IsNumeral digits → list_all is_digit digits ≡ true
numeral_digits [] n = absurd n
numeral_digits (c ∷ cs) n = rw (n.0, n.1) refl

-- it is the longest at the front, where no digit follows
pub numeral_front : (digits : List ℕ) (c : ℕ) (rest : List ℕ) → IsNumeral digits → is_digit c ≡ false → numeral_length (digits ++ c ∷ rest) ≡ length digits
numeral_front [] c rest n d = absurd n
numeral_front (x ∷ xs) c rest n d = elim (cases_Bool (x == 48)) [
  | inl zero ↦ (
      let same : x ≡ 48 = search rules in
      rw zero (ap (λ (l : List ℕ). suc (length l)) (sym (n.2 same)))
      )
  | inr other ↦ rw other (run_to is_digit (x ∷ xs) c rest (numeral_digits (x ∷ xs) n) d)
]

-- the longest at the front has no numeral that goes on
pub numeral_longest : (digits : List ℕ) (c : ℕ) (rest more : List ℕ) → IsNumeral digits → numeral_length (digits ++ c ∷ rest) ≡ length digits
    → IsNumeral (digits ++ c ∷ more) → ⊥
numeral_longest [] c rest more n e longer = n
numeral_longest (x ∷ xs) c rest more n e longer = elim (cases_Bool (x == 48)) [
  | inl zero ↦ (let same : x ≡ 48 = search rules in some xs (longer.2 same))
  | inr other ↦ (
      let whole : prefix_len is_digit (x ∷ xs ++ c ∷ rest) ≡ length (x ∷ xs) = rw other at e in
      let past = run_past is_digit (x ∷ xs) c rest (numeral_digits (x ∷ xs) n) (digit_in xs longer.1) in
      omega (arith, whole, past)
      )
]
  where
    some : (xs : List ℕ) → xs ++ c ∷ more ≡ [] → ⊥
    some [] e = cc
    some (y ∷ xs) e = cc

    digit_in : (xs : List ℕ) → list_all is_digit (xs ++ c ∷ more) ≡ true → is_digit c ≡ true
    digit_in [] h = (both_true (is_digit c) _ h).0
    digit_in (y ∷ xs) h = digit_in xs (both_true (is_digit y) _ h).1

-- where a digit stands first, a numeral does
pub numeral_found : (c : ℕ) (others : List ℕ) → is_digit c ≡ true → IsNumeral (take (numeral_length (c ∷ others)) (c ∷ others))
numeral_found c others d = elim (cases_Bool (c == 48)) [
  | inl zero ↦ rw zero (d, refl, λ e. refl)
  | inr other ↦ (
      let length_is : numeral_length (c ∷ others) ≡ suc (prefix_len is_digit others) = rw (other, d) (omega arith) in
      rw length_is (
        d,
        run_of_class is_digit (prefix_len is_digit others) others (omega arith),
        λ e. (let clash : true ≡ false = sym (rw e refl) ∙ other in cc),
      )
      )
]

-- it is no longer than the text
pub numeral_within : (text : List ℕ) → numeral_length text ≤ length text
numeral_within [] = omega arith
numeral_within (c ∷ others) = elim (cases_Bool (c == 48)) [
  | inl zero ↦ rw zero (omega arith)
  | inr other ↦ rw other (prefix_len-le-length is_digit (c ∷ others))
]

-- elsewhere none does
pub numeral_missing : (c : ℕ) (others : List ℕ) → is_digit c ≡ false → numeral_length (c ∷ others) ≡ 0
numeral_missing c others d = elim (cases_Bool (c == 48)) [
  | inl zero ↦ (let same : c ≡ 48 = search rules in let clash : true ≡ false = rw same at d in cc)
  | inr other ↦ rw (other, d) refl
]

-- no number begins in a numeral behind its first digit
pub numeral_quiet : (digits : List ℕ) → list_all is_digit digits ≡ true → quiet false digits ≡ true
numeral_quiet [] h = refl
numeral_quiet (c ∷ cs) h =
    let parts = both_true (is_digit c) _ h in rw (digit_no_space c parts.0) (numeral_quiet cs parts.1)
