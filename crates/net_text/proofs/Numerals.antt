-- Numerals at the front of a text, and what read_number says of them.
use Rattle.std.proofs.Common.{rules, ◌≡◌, inl, inr, ℕ, suc, ◌+◌, ◌<◌, ◌≤◌, nat_lt, nat_le, Bool, true, false, ◌==◌, List, [], ◌∷◌, Result, Ok, Err, length, take, refl, sym, ap, ◌∙◌, arith}
use Rattle.std.proofs.lemmas.Bool.{cases_Bool, leb-false, lt-ltb, le-ltb}
use Rattle.std.proofs.lemmas.List.Sums.{take_while-cons}
use Rattle.std.specs.Prelude.{take_while}
use Rattle.std.specs.List.{prefix_len}
use Rattle.std.specs.Str.Parse.{digits_value}
use Rattle.rx_text.specs.NumberInText.{is_digit}
use Rattle.rx_text.specs.NumberInText as text
use Rattle.rx_text.specs.declared.number.NumberFault.{NumberFault}
use Rattle.rx_text.specs.declared.number.NumberFault.TheVariants.{NumberTooLarge}
use Rattle.net_text.specs.Shape.{numeral_length}
use Rattle.net_text.specs.Reading.{numeral_below, number_below}
use Rattle.net_text.specs.declared.net_fault.NetCode.{NetCode}
use Rattle.net_text.specs.declared.words.TextFault.{TextFault}

-- the longest run of a longest run is all of it
run_again : {X : Type 0} (p : X → Bool) (xs : List X) → take_while p (take (prefix_len p xs) xs) ≡ take (prefix_len p xs) xs
run_again p [] = refl
run_again p (x ∷ xs) = elim (cases_Bool (p x)) [
  | inl good ↦ (
      let e : 1 + prefix_len p xs ≡ suc (prefix_len p xs) = omega arith in
      let front : take (prefix_len p (x ∷ xs)) (x ∷ xs) ≡ x ∷ take (prefix_len p xs) xs = rw (good, e) refl in
      rw (front, take_while-cons p x (take (prefix_len p xs) xs), good) (ap (λ l. x ∷ l) (run_again p xs))
      )
  | inr bad ↦ rw bad refl
]

-- a numeral is a run of digits
pub numeral_run : (text : List ℕ) → take_while is_digit (take (numeral_length text) text) ≡ take (numeral_length text) text
numeral_run [] = refl
numeral_run (first ∷ rest) = elim (cases_Bool (first == 48)) [
  | inl none ↦ (let same : first ≡ 48 = search rules in rw same refl)
  | inr other ↦ rw other (run_again is_digit (first ∷ rest))
]

module _ (limit : ℕ) (code : NetCode) (at : ℕ) where
  of_too_large : (ds : List ℕ) → text.number_of 0 limit ds ≡ Err NumberTooLarge → Err (record { code = code; at = at }) ≡ numeral_below limit code at ds
  of_too_large [] e = cc
  of_too_large (d ∷ ds) e = by_test (nat_le (digits_value 10 (d ∷ ds)) limit) refl
    where
      by_test : (b : Bool) → nat_le (digits_value 10 (d ∷ ds)) limit ≡ b → Err (record { code = code; at = at }) ≡ numeral_below limit code at (d ∷ ds)
      by_test true t = let wrong = rw t at e in cc
      by_test false t =
          let above = leb-false _ _ t in
          let e : nat_lt (digits_value 10 (d ∷ ds)) limit ≡ false = le-ltb _ _ (omega (arith, above)) in rw e refl

  of_below : (ds : List ℕ) (value n : ℕ) → text.number_of 0 limit ds ≡ Ok (value, n) → value < limit
      → ◌≡◌ {A = Result (ℕ × ℕ) TextFault} (Ok (value, at + length ds)) (numeral_below limit code at ds)
  of_below [] value n e h = cc
  of_below (d ∷ ds) value n e h = by_test (nat_le (digits_value 10 (d ∷ ds)) limit) refl
    where
      by_test : (b : Bool) → nat_le (digits_value 10 (d ∷ ds)) limit ≡ b
          → ◌≡◌ {A = Result (ℕ × ℕ) TextFault} (Ok (value, at + length (d ∷ ds))) (numeral_below limit code at (d ∷ ds))
      by_test true t =
          let said = rw t at e in
          let pair : ◌≡◌ {A = ℕ × ℕ} (digits_value 10 (d ∷ ds), 0 + length (d ∷ ds)) (value, n) = cc in
          let same : digits_value 10 (d ∷ ds) ≡ value = ap (λ (p : ℕ × ℕ). p.0) pair in
          let below : nat_lt (digits_value 10 (d ∷ ds)) limit ≡ true = lt-ltb _ _ (omega (arith, same)) in
          rw (below, same) refl
      by_test false t = let wrong = rw t at e in cc

  of_at_limit : (ds : List ℕ) (value n : ℕ) → text.number_of 0 limit ds ≡ Ok (value, n) → limit ≤ value
      → ◌≡◌ {A = Result (ℕ × ℕ) TextFault} (Err (record { code = code; at = at })) (numeral_below limit code at ds)
  of_at_limit [] value n e h = cc
  of_at_limit (d ∷ ds) value n e h = by_test (nat_le (digits_value 10 (d ∷ ds)) limit) refl
    where
      by_test : (b : Bool) → nat_le (digits_value 10 (d ∷ ds)) limit ≡ b
          → ◌≡◌ {A = Result (ℕ × ℕ) TextFault} (Err (record { code = code; at = at })) (numeral_below limit code at (d ∷ ds))
      by_test true t =
          let said = rw t at e in
          let pair : ◌≡◌ {A = ℕ × ℕ} (digits_value 10 (d ∷ ds), 0 + length (d ∷ ds)) (value, n) = cc in
          let same : digits_value 10 (d ∷ ds) ≡ value = ap (λ (p : ℕ × ℕ). p.0) pair in
          let above : nat_lt (digits_value 10 (d ∷ ds)) limit ≡ false = le-ltb _ _ (omega (arith, same)) in
          rw above refl
      by_test false t = let wrong = rw t at e in cc

  module _ (rest digits : List ℕ) (are : digits ≡ take (numeral_length rest) rest) where
    -- what read_number says of the numeral at the front
    said : text.number_at digits 0 limit ≡ text.number_of 0 limit digits
    said = rw are (ap (text.number_of 0 limit) (numeral_run rest))

    pub read_too_large : (f : NumberFault) → text.number_at digits 0 limit ≡ Err f → f ≡ NumberTooLarge
        → Err (record { code = code; at = at }) ≡ number_below limit code at rest
    read_too_large f e is = rw (← are) (of_too_large digits (rw is at (sym said ∙ e)))

    pub read_below : (value n count : ℕ) → text.number_at digits 0 limit ≡ Ok (value, n) → value < limit → length digits ≡ count
        → ◌≡◌ {A = Result (ℕ × ℕ) TextFault} (Ok (value, at + count)) (number_below limit code at rest)
    read_below value n count e h size = rw (← are, ← size) (of_below digits value n (sym said ∙ e) h)

    pub read_at_limit : (value n : ℕ) → text.number_at digits 0 limit ≡ Ok (value, n) → limit ≤ value
        → ◌≡◌ {A = Result (ℕ × ℕ) TextFault} (Err (record { code = code; at = at })) (number_below limit code at rest)
    read_at_limit value n e h = rw (← are) (of_at_limit digits value n (sym said ∙ e) h)
