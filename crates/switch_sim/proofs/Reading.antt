-- The vectors that were read, and the text behind them.
use Rattle.std.proofs.Common.{◌≡◌, ◌≢◌, ℕ, ◌+◌, ◌<◌, ◌≤◌, ◌==◌, ◌⊎◌, inl, inr, Bool, true, false, List, [], ◌∷◌, ◌++◌, length, map, take, drop, refl, sym, ap, ◌∙◌, subst, arith, append_assoc, append-nil, length-append}
use Rattle.std.proofs.lemmas.Bool.{or_cases, eqb-true}
use Rattle.std.proofs.lemmas.Grind.{flat_map-append}
use Rattle.std.proofs.lemmas.List.{drop-drop, length-take-le}
use Rattle.std.proofs.lemmas.List.Elements.{All-push, recursion_from_All}
use Rattle.std.specs.List.{AllByRecursion, flat_map}
use Rattle.std.specs.Prelude.{All}
use Rattle.switch_sim.specs.TraceTexts.{IsTrace, bit_byte, vector_line, trace_text, chip_word, is_bit}
use Rattle.switch_sim.specs.TraceReading.{bits_in, IsChipLine, IsVectorLine}

-- the text is the lines of the vectors, and what is behind this place
pub record SoFar (text : List ℕ) (at : ℕ) (vectors : List (List Bool)) : Type 0 where
  pub whole : text ≡ flat_map vector_line vectors ++ drop at text
  pub place : at ≡ length (flat_map vector_line vectors)
  pub filled : All (λ vector. vector ≢ []) vectors

pub begins : (text : List ℕ) → SoFar text 0 []
begins text = record { whole = refl; place = refl; filled = λ k d lt. absurd (omega arith) }

-- a bit of a byte writes the byte
written : (byte : ℕ) → is_bit byte ≡ true → bit_byte (byte == 49) ≡ byte
written byte e = by (byte == 49) refl (or_cases _ _ e)
  where
    by : (test : Bool) → (byte == 49) ≡ test → ((byte == 48) ≡ true) ⊎ ((byte == 49) ≡ true) → bit_byte test ≡ byte
    by true t h = sym (eqb-true byte 49 t)
    by false t (inl h) = sym (eqb-true byte 48 h)
    by false t (inr h) = absurd (cc)

rewritten : (line : List ℕ) → AllByRecursion (λ byte. is_bit byte ≡ true) line → map bit_byte (bits_in line) ≡ line
rewritten [] h = refl
rewritten (byte ∷ line) h = rw (written byte h.0, rewritten line h.1) refl

not_none : (line : List ℕ) → 0 < length line → bits_in line ≢ []
not_none [] lt e = absurd (omega arith)
not_none (byte ∷ line) lt e = cc

module _ (text : List ℕ) (at : ℕ) (vectors : List (List Bool)) (so : SoFar text at vectors) where
  abbrev rest : List ℕ
  rest = drop at text

  -- one more vector
  pub goes_on : (count width : ℕ) → IsVectorLine rest at count width → SoFar text (at + (width + 1)) (vectors ++ bits_in (take width rest) ∷ [])
  goes_on count width line =
      let vector = bits_in (take width rest) in
      let same : map bit_byte vector ≡ take width rest =
      rewritten (take width rest) (recursion_from_All (λ byte. is_bit byte ≡ true) (take width rest) line.bits) in
      let behind : drop (width + 1) rest ≡ drop (at + (width + 1)) text = drop-drop (width + 1) at text in
      let lines : flat_map vector_line (vectors ++ vector ∷ []) ≡ flat_map vector_line vectors ++ (take width rest ++ 10 ∷ []) =
      flat_map-append vector_line vectors (vector ∷ []) ∙ ap (λ l. flat_map vector_line vectors ++ l) (append-nil (vector_line vector) ∙ ap (λ l. l ++ 10 ∷ []) same) in
      let size : length (take width rest) ≡ width = length-take-le width rest (let below = line.below in omega arith) in
      record {
        whole = so.whole ∙ ap (λ l. flat_map vector_line vectors ++ l) (line.cut ∙ ap (λ l. take width rest ++ 10 ∷ l) behind)
            ∙ sym (ap (λ l. l ++ drop (at + (width + 1)) text) lines ∙ append_assoc (flat_map vector_line vectors) (take width rest ++ 10 ∷ []) _
            ∙ ap (λ l. flat_map vector_line vectors ++ l) (append_assoc (take width rest) (10 ∷ []) _));
        place =
            let total = ap length lines ∙ length-append (flat_map vector_line vectors) (take width rest ++ 10 ∷ []) in
            let more = length-append (take width rest) (10 ∷ []) in
            let before = so.place in
            omega arith;
        filled = All-push (λ v. v ≢ []) vectors vector so.filled (not_none (take width rest) (subst (λ n. 0 < n) (sym size) line.filled));
      }

  -- the line before the chip
  pub ends : (count : ℕ) → length vectors ≤ 10000 → IsChipLine rest at count → IsTrace text vectors (at + 4 + 1)
  ends count few line =
      let lines : length (trace_text vectors) ≡ length (flat_map vector_line vectors) + 5 = length-append (flat_map vector_line vectors) (chip_word ++ 10 ∷ []) in
      let before = so.place in
      record {
        chip = drop 5 rest;
        whole = so.whole ∙ ap (λ l. flat_map vector_line vectors ++ l) line.cut ∙ sym (append_assoc (flat_map vector_line vectors) (chip_word ++ 10 ∷ []) (drop 5 rest));
        behind = omega arith;
        filled = so.filled;
        few = few;
      }
