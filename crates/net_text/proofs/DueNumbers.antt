-- Numbers in a text, up to a limit.
use Rattle.std.proofs.Common.{◌≡◌, ℕ, ◌≤◌, true, false, List, [], ◌∷◌, ◌++◌, length, refl, sym, ap, ◌∙◌, subst, append_assoc, append-nil, arith}
use Rattle.std.specs.Str.Parse.{digits_value}
use Rattle.rx_text.specs.NumberInText.{is_digit}
use Rattle.net_text.specs.Shape.{IsNumeral, Shaped, numeral_length, front_number}
use Rattle.net_text.specs.NetRefusals.{NumberBegins, NetCodeStands}
use Rattle.net_text.specs.Stages.{IsNumeralBelow, Part, Stage, EndsInSpace}
use Rattle.net_text.specs.declared.net_fault.NetCode.{NetCode}
use Rattle.net_text.specs.declared.net_fault.NetCode.TheVariants.{N1, N2, N5}
use Rattle.net_text.proofs.Advancing.{Stops, quiet_at, after_space_second}
use Rattle.net_text.proofs.NumeralTokens.{numeral_digits, numeral_front, numeral_longest, numeral_quiet}
use Rattle.net_text.proofs.Steps.{take_front}
use Rattle.net_text.proofs.Tokens.{token_stop, token_step, token_none}

-- the number at the front, where it is written whole
pub front_number_of : (digits : List ℕ) (c : ℕ) (rest : List ℕ) → IsNumeral digits → is_digit c ≡ false → front_number (digits ++ c ∷ rest) ≡ digits_value 10 digits
front_number_of digits c rest n d = rw (numeral_front digits c rest n d, take_front digits (c ∷ rest)) refl

-- in a number no code stands, if none does at its first digit
module _ (front digits rest : List ℕ) (numeral : IsNumeral digits) (two : NetCodeStands N2 front (digits ++ rest) → ⊥) (five : NetCodeStands N5 front (digits ++ rest) → ⊥) where
  inside : (x : ℕ) (xs : List ℕ) (c : ℕ) (ys : List ℕ) → digits ≡ x ∷ xs ++ c ∷ ys → NumberBegins (front ++ x ∷ xs) (c ∷ ys ++ rest) → ⊥
  inside x xs c ys e n =
      let here = n.here in
      let same : c ≡ n.digit = cc in
      quiet_at false (x ∷ xs) c ys (rw e at (numeral_quiet digits (numeral_digits digits numeral)))
      (after_space_second true front (x ∷ xs) n.before n.space) (rw same n.valid)

  at_first : (code : NetCode) (c : ℕ) (ys : List ℕ) → digits ≡ c ∷ ys → NetCodeStands code (front ++ []) (c ∷ ys ++ rest) → NetCodeStands code front (digits ++ rest)
  at_first code c ys e s = rw e (subst (λ l. NetCodeStands code l (c ∷ ys ++ rest)) (append-nil front) s)

  no_two : (xs : List ℕ) (c : ℕ) (ys : List ℕ) → digits ≡ xs ++ c ∷ ys → NetCodeStands N2 (front ++ xs) (c ∷ ys ++ rest) → ⊥
  no_two [] c ys e s = two (at_first N2 c ys e s)
  no_two (x ∷ xs) c ys e s = inside x xs c ys e s.0

  no_five : (xs : List ℕ) (c : ℕ) (ys : List ℕ) → digits ≡ xs ++ c ∷ ys → NetCodeStands N5 (front ++ xs) (c ∷ ys ++ rest) → ⊥
  no_five [] c ys e s = five (at_first N5 c ys e s)
  no_five (x ∷ xs) c ys e s = inside x xs c ys e s.0

module _ {K G : List ℕ → Type 0} (nets limit last : ℕ) (no_digit : is_digit last ≡ false) (front : List ℕ) where
  -- no digit stands here
  pub numeral_none : (rest : List ℕ) → Stage nets front rest (Part IsNumeral last K) G → ((c : ℕ) (others : List ℕ) → rest ≡ c ∷ others → is_digit c ≡ false)
      → Stops nets N1 front rest
  numeral_none rest stage none =
      token_none last nets front rest stage (λ n. n)
      (λ c others token e n. let clash : true ≡ false = sym n.0 ∙ none c others e in cc)

  -- a digit does
  begins : (c : ℕ) (others : List ℕ) → Stage nets front (c ∷ others) (Part IsNumeral last K) (Part (IsNumeralBelow limit) last G) → is_digit c ≡ true
      → EndsInSpace front → NumberBegins front (c ∷ others)
  begins c others stage digit space =
      let shaped = stage.back (c ∷ last ∷ stage.some.behind)
      (record { part = c ∷ []; behind = stage.some.behind; is = refl; fits = (digit, refl, λ e. refl); more = stage.some.more }) in
      record {
        before = space.0;
        digit = c;
        others = others;
        space = space.1;
        here = refl;
        valid = digit;
        begins = (last ∷ stage.some.behind, subst Shaped (sym (append_assoc front (c ∷ []) (last ∷ stage.some.behind))) shaped);
      }

  -- the number here is not below the limit
  pub numeral_too_large : (code : NetCode) (c : ℕ) (others : List ℕ) → Stage nets front (c ∷ others) (Part IsNumeral last K) (Part (IsNumeralBelow limit) last G)
      → is_digit c ≡ true → EndsInSpace front → limit ≤ front_number (c ∷ others)
      → (NumberBegins front (c ∷ others) → NetCodeStands code front (c ∷ others)) → Stops nets code front (c ∷ others)
  numeral_too_large code c others stage digit space large stands = record {
    stands = stands (begins c others stage digit space);
    first = stage.clear;
    refuted = λ ranged. (
        let part = stage.ranged (c ∷ others) ranged in
        let value : front_number (c ∷ others) ≡ digits_value 10 part.part =
        ap front_number part.is ∙ front_number_of part.part last part.behind part.fits.0 no_digit in
        omega (arith, large, value, part.fits.1)
        );
  }

  -- the byte that ends a number does not stand behind this one
  pub numeral_stop : (digits rest : List ℕ) → IsNumeral digits → (NetCodeStands N2 front (digits ++ rest) → ⊥) → (NetCodeStands N5 front (digits ++ rest) → ⊥)
      → Stage nets front (digits ++ rest) (Part IsNumeral last K) (Part (IsNumeralBelow limit) last G) → numeral_length (digits ++ rest) ≡ length digits
      → ((others : List ℕ) → rest ≡ last ∷ others → ⊥) → Stops nets N1 (front ++ digits) rest
  numeral_stop digits rest numeral two five stage whole other =
      token_stop IsNumeral is_digit last no_digit numeral_digits nets front digits numeral (λ d below. below.0) rest stage
      (no_two front digits rest numeral two five) (no_five front digits rest numeral two five)
      (λ c others more e longer. numeral_longest digits c others more numeral (rw e at whole) longer) other

  -- it does
  pub numeral_step : (digits rest : List ℕ) → IsNumeral digits → (NetCodeStands N2 front (digits ++ last ∷ rest) → ⊥) → (NetCodeStands N5 front (digits ++ last ∷ rest) → ⊥)
      → Stage nets front (digits ++ last ∷ rest) (Part IsNumeral last K) (Part (IsNumeralBelow limit) last G) → Stage nets ((front ++ digits) ++ last ∷ []) rest K G
  numeral_step digits rest numeral two five stage =
      token_step IsNumeral is_digit last no_digit numeral_digits nets front digits numeral (λ d below. below.0) rest stage
      (no_two front digits (last ∷ rest) numeral two five) (no_five front digits (last ∷ rest) numeral two five) no_digit
