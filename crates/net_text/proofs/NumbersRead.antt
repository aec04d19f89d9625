-- Numbers that the reader of network texts reads, and its faults there.
use Rattle.std.proofs.Common.{◌≡◌, ◌≢◌, inl, inr, ℕ, ◌+◌, ◌<◌, ◌≤◌, nat_lt, Bool, true, false, ◌==◌, List, [], ◌∷◌, ◌++◌, Result, Ok, Err, take, drop, length, refl, sym, ap, ◌∙◌, append_assoc, arith}
use Rattle.std.specs.Prelude.{MatchResult}
use Rattle.std.specs.Str.Parse.{digits_value}
use Rattle.std.proofs.lemmas.Bool.{cases_Bool, ltb-true, ltb-false, eqb-true, eqb-false}
use Rattle.std.proofs.lemmas.List.{length-append, length-take-le, take-append-drop}
use Rattle.rx_text.specs.NumberInText.{is_digit}
use Rattle.net_text.specs.Shape.{IsNumeral, numeral_length, front_number}
use Rattle.net_text.specs.NetRefusals.{NumberBegins, NetCodeStands}
use Rattle.net_text.specs.Reading.{word_at, numeral_below, number_below, number_then, number_due, with_read}
use Rattle.net_text.specs.Stages.{IsNumeralBelow, Part, Stage, EndsInSpace}
use Rattle.net_text.specs.declared.net_fault.NetCode.{NetCode}
use Rattle.net_text.specs.declared.net_fault.NetCode.TheVariants.{N1, N2, N5}
use Rattle.net_text.specs.declared.words.TextFault.{TextFault}
use Rattle.net_text.proofs.DueNumbers.{numeral_none, numeral_too_large, numeral_stop, numeral_step}
use Rattle.net_text.proofs.NumeralTokens.{numeral_found, numeral_missing, numeral_within}
use Rattle.net_text.proofs.Steps.{take_front}
use Rattle.net_text.proofs.Placed.{Moved, moved, Stopped, stopped, stopped_at}

-- What stands behind a number that was read.
pub record NumberRead (nets : ℕ) (text : List ℕ) (at : ℕ) (K G : List ℕ → Type 0) (read : ℕ × ℕ) : Type 0 where
  pub bytes : List ℕ
  pub some : bytes ≢ []
  pub moved : Moved text at read.1 bytes
  pub stage : Stage nets (take read.1 text) (drop read.1 text) K G
  pub value : read.0 ≡ front_number (drop at text)

-- one byte that is due
pub byte_read : (c : ℕ) (at : ℕ) (rest : List ℕ) (P : ℕ → Type 0) (Q : TextFault → Type 0)
    → ((others : List ℕ) → rest ≡ c ∷ others → P (at + 1))
    → (((others : List ℕ) → rest ≡ c ∷ others → ⊥) → Q (record { code = N1; at = at }))
    → MatchResult (word_at (c ∷ []) at rest) P Q
byte_read c at [] P Q found none = let e : at + 0 ≡ at = omega arith in rw e (none (λ others e. cc))
byte_read c at (d ∷ rest) P Q found none = elim (cases_Bool (c == d)) [
  | inl one ↦ (let same : d ≡ c = sym (eqb-true _ _ one) in rw one (found rest (ap (λ x. x ∷ rest) same)))
  | inr other ↦ (
      let e : at + 0 ≡ at = omega arith in
      rw (other, e) (none (λ others f. let same : c ≡ d = cc in eqb-false _ _ other same))
      )
]

-- what was read before it
pub with_word : {A : Type 0} (read : A) (P : A × ℕ → Type 0) (Q : TextFault → Type 0) (r : Result ℕ TextFault) → MatchResult r (λ next. P (read, next)) Q
    → MatchResult (with_read read r) P Q
with_word read P Q (Ok next) h = h
with_word read P Q (Err fault) h = h

module _ {K G : List ℕ → Type 0} (nets limit last : ℕ) (code : NetCode) (no_digit : is_digit last ≡ false) (text : List ℕ) (at : ℕ) (within : at ≤ length text)
    (space : EndsInSpace (take at text))
    (stands : NumberBegins (take at text) (drop at text) → limit ≤ front_number (drop at text) → NetCodeStands code (take at text) (drop at text))
    (two : front_number (drop at text) < limit → NetCodeStands N2 (take at text) (drop at text) → ⊥)
    (five : front_number (drop at text) < limit → NetCodeStands N5 (take at text) (drop at text) → ⊥) where
  -- the answer after a numeral
  behind : (digits rest : List ℕ) → drop at text ≡ digits ++ rest → IsNumeral digits → numeral_length (digits ++ rest) ≡ length digits
      → digits_value 10 digits < limit → Stage nets (take at text) (drop at text) (Part IsNumeral last K) (Part (IsNumeralBelow limit) last G)
      → MatchResult (with_read (digits_value 10 digits) (word_at (last ∷ []) (at + length digits) (drop (at + length digits) text)))
      (NumberRead nets text at K G) (Stopped nets text)
  behind digits rest e numeral whole below stage =
      let behind_digits = (moved text at digits rest within e).1 in
      let value : front_number (drop at text) ≡ digits_value 10 digits = rw e (rw (whole, take_front digits rest) refl) in
      let small : front_number (drop at text) < limit = omega (arith, value, below) in
      let here : Stage nets (take at text) (digits ++ rest) (Part IsNumeral last K) (Part (IsNumeralBelow limit) last G) = rw e at stage in
      let none_two : NetCodeStands N2 (take at text) (digits ++ rest) → ⊥ = rw e at (two small) in
      let none_five : NetCodeStands N5 (take at text) (digits ++ rest) → ⊥ = rw e at (five small) in
      rw behind_digits (with_word (digits_value 10 digits) (NumberRead nets text at K G) (Stopped nets text) (word_at (last ∷ []) (at + length digits) rest) (byte_read last (at + length digits) rest
      (λ next. NumberRead nets text at K G (digits_value 10 digits, next)) (Stopped nets text)
      (λ others f. step digits others value numeral (e ∙ ap (λ l. digits ++ l) f) (rw f at here) (rw f at none_two) (rw f at none_five))
      (λ other. stopped nets text at digits rest N1 within e (numeral_stop nets limit last no_digit (take at text) digits rest numeral none_two none_five here whole other))))
    where
      not_empty : (digits : List ℕ) → digits ++ last ∷ [] ≢ []
      not_empty [] e = cc
      not_empty (x ∷ digits) e = cc

      step : (digits others : List ℕ) → front_number (drop at text) ≡ digits_value 10 digits → IsNumeral digits → drop at text ≡ digits ++ last ∷ others
          → Stage nets (take at text) (digits ++ last ∷ others) (Part IsNumeral last K) (Part (IsNumeralBelow limit) last G)
          → (NetCodeStands N2 (take at text) (digits ++ last ∷ others) → ⊥) → (NetCodeStands N5 (take at text) (digits ++ last ∷ others) → ⊥)
          → NumberRead nets text at K G (digits_value 10 digits, at + length digits + 1)
      step digits others value numeral e here none_two none_five =
          let cut : drop at text ≡ (digits ++ last ∷ []) ++ others = e ∙ sym (append_assoc digits (last ∷ []) others) in
          let size : at + length (digits ++ last ∷ []) ≡ at + length digits + 1 = omega (arith, length-append digits (last ∷ [])) in
          let (there, rest_is) = rw size at (moved text at (digits ++ last ∷ []) others within cut) in
          let front_is : take (at + length digits + 1) text ≡ (take at text ++ digits) ++ last ∷ [] = there.front ∙ sym (append_assoc (take at text) digits (last ∷ [])) in
          record {
            bytes = digits ++ last ∷ [];
            some = not_empty digits;
            moved = there;
            stage = rw (front_is, rest_is) (numeral_step nets limit last no_digit (take at text) digits others numeral none_two none_five here);
            value = sym value;
          }

  -- the answer at the rest of the text
  at_rest : (rest : List ℕ) → drop at text ≡ rest → Stage nets (take at text) (drop at text) (Part IsNumeral last K) (Part (IsNumeralBelow limit) last G)
      → MatchResult (number_then (last ∷ []) text (number_below limit code at rest)) (NumberRead nets text at K G) (Stopped nets text)
  at_rest rest e stage = none_or_some rest e
    where
      none : (rest : List ℕ) → drop at text ≡ rest → ((c : ℕ) (others : List ℕ) → rest ≡ c ∷ others → is_digit c ≡ false)
          → Stopped nets text (record { code = N1; at = at })
      none rest e missing =
          let stops = numeral_none nets limit last no_digit (take at text) rest (rw e at stage) missing in
          stopped_at nets text at N1 within (rw e stops)

      none_or_some : (rest : List ℕ) → drop at text ≡ rest
          → MatchResult (number_then (last ∷ []) text (number_below limit code at rest)) (NumberRead nets text at K G) (Stopped nets text)
      none_or_some [] e = none [] e (λ c others f. cc)
      none_or_some (c ∷ others) e = by_digit (is_digit c) refl
        where
          by_value : (x : ℕ) (xs : List ℕ) → take (numeral_length (c ∷ others)) (c ∷ others) ≡ x ∷ xs → IsNumeral (x ∷ xs) → is_digit c ≡ true
              → (b : Bool) → nat_lt (digits_value 10 (x ∷ xs)) limit ≡ b
              → MatchResult (number_then (last ∷ []) text (numeral_below limit code at (x ∷ xs))) (NumberRead nets text at K G) (Stopped nets text)
          by_value x xs are numeral digit true t =
              let behind_digits = drop (numeral_length (c ∷ others)) (c ∷ others) in
              let whole : x ∷ xs ++ behind_digits ≡ c ∷ others =
              ap (λ l. l ++ behind_digits) (sym are) ∙ take-append-drop (numeral_length (c ∷ others)) (c ∷ others) in
              let size : numeral_length (c ∷ others) ≡ length (x ∷ xs) =
              sym (length-take-le (numeral_length (c ∷ others)) (c ∷ others) (numeral_within (c ∷ others))) ∙ ap length are in
              let all : numeral_length (x ∷ xs ++ behind_digits) ≡ length (x ∷ xs) = ap numeral_length whole ∙ size in
              rw t (behind (x ∷ xs) behind_digits (e ∙ sym whole) numeral all (ltb-true _ _ t) stage)
          by_value x xs are numeral digit false t =
              let large : limit ≤ digits_value 10 (x ∷ xs) = ltb-false _ _ t in
              let at_least : limit ≤ front_number (c ∷ others) = rw are large in
              let stops = numeral_too_large nets limit last no_digit (take at text) code c others (rw e at stage) digit space at_least
              (λ n. rw e at (stands (rw e n) (rw e at_least))) in
              rw t (stopped_at nets text at code within (rw e stops))

          by_digits : (digits : List ℕ) → take (numeral_length (c ∷ others)) (c ∷ others) ≡ digits → IsNumeral digits → is_digit c ≡ true
              → MatchResult (number_then (last ∷ []) text (numeral_below limit code at digits)) (NumberRead nets text at K G) (Stopped nets text)
          by_digits [] are numeral digit = absurd numeral
          by_digits (x ∷ xs) are numeral digit = by_value x xs are numeral digit (nat_lt (digits_value 10 (x ∷ xs)) limit) refl

          by_digit : (b : Bool) → is_digit c ≡ b
              → MatchResult (number_then (last ∷ []) text (number_below limit code at (c ∷ others))) (NumberRead nets text at K G) (Stopped nets text)
          by_digit true d = by_digits (take (numeral_length (c ∷ others)) (c ∷ others)) refl (numeral_found c others d) d
          by_digit false d =
              rw (numeral_missing c others d)
              (none (c ∷ others) e (λ x xs f. let same : c ≡ x = cc in rw (← same) d))

  pub number_read : Stage nets (take at text) (drop at text) (Part IsNumeral last K) (Part (IsNumeralBelow limit) last G)
      → MatchResult (number_due limit code (last ∷ []) at text) (NumberRead nets text at K G) (Stopped nets text)
  number_read stage = at_rest (drop at text) refl stage
