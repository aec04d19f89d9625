-- A text begins with one trace, or it is refused for one fault.
use Rattle.std.proofs.Common.{◌≡◌, ◌≢◌, ℕ, ◌⊎◌, inl, inr, Bool, true, false, List, [], ◌∷◌, ◌++◌, Option, Some, None, length, map, refl, sym, ap, ◌∙◌, append_assoc, take, arith}
use Rattle.std.specs.List.{flat_map}
use Rattle.rx_text.specs.declared.place.Place.{Place}
use Rattle.rx_text.specs.TextPlace.{place_behind}
use Rattle.switch_sim.specs.TraceTexts.{IsTrace, TraceRefusal, bit_byte, vector_line, trace_text, chip_word, trace_fault}
use Rattle.switch_sim.specs.TraceLaws.{BeginsWithTrace}
use Rattle.switch_sim.specs.declared.trace_code.TraceCode.{TraceCode}
use Rattle.switch_sim.specs.declared.trace_code.TraceSpot.{TraceSpot}
use Rattle.switch_sim.proofs.Faultless.{faultless_begins, begins_faultless}

pub traced_or_refused : (text : List ℕ) → BeginsWithTrace text ⊎ ((code : TraceCode) × (place : Place) × TraceRefusal text code place)
traced_or_refused text = by (trace_fault text) refl
  where
    by : (fault : Option TraceSpot) → trace_fault text ≡ fault → BeginsWithTrace text ⊎ ((code : TraceCode) × (place : Place) × TraceRefusal text code place)
    by None e = inl (faultless_begins text e)
    by (Some spot) e = inr (spot.code, place_behind (take spot.at text), (spot, e, refl, refl))

pub not_both : (text : List ℕ) (code : TraceCode) (place : Place) → BeginsWithTrace text → TraceRefusal text code place → ⊥
not_both text code place trace refused =
    let none : trace_fault text ≡ None = begins_faultless text trace in
    let some : trace_fault text ≡ Some refused.0 = refused.1 in
    cc

pub one_refusal : (text : List ℕ) (code other : TraceCode) (place elsewhere : Place) → TraceRefusal text code place → TraceRefusal text other elsewhere
    → (code ≡ other) × (place ≡ elsewhere)
one_refusal text code other place elsewhere first second =
    let one : Some first.0 ≡ Some second.0 = sym first.1 ∙ second.1 in
    let same : first.0 ≡ second.0 = cc in (
      first.2 ∙ ap (λ spot. spot.code) same ∙ sym second.2,
      first.3 ∙ ap (λ spot. place_behind (take spot.at text)) same ∙ sym second.3,
    )

abbrev first_byte : List ℕ → ℕ
first_byte [] = 0
first_byte (byte ∷ bytes) = byte

abbrev later_bytes : List ℕ → List ℕ
later_bytes [] = []
later_bytes (byte ∷ bytes) = bytes

-- bytes that begin differently are not the same
apart : (a b : ℕ) (some others : List ℕ) → a ≢ b → a ∷ some ≡ b ∷ others → ⊥
apart a b some others differ e = differ (ap first_byte e)

-- a line is of one vector
one_line : (v w : List Bool) (rest other : List ℕ) → map bit_byte v ++ 10 ∷ rest ≡ map bit_byte w ++ 10 ∷ other → (v ≡ w) × (rest ≡ other)
one_line [] [] rest other e = (refl, ap later_bytes e)
one_line [] (true ∷ w) rest other e = absurd (apart 10 49 _ _ (omega arith) e)
one_line [] (false ∷ w) rest other e = absurd (apart 10 48 _ _ (omega arith) e)
one_line (true ∷ v) [] rest other e = absurd (apart 49 10 _ _ (omega arith) e)
one_line (false ∷ v) [] rest other e = absurd (apart 48 10 _ _ (omega arith) e)
one_line (true ∷ v) (false ∷ w) rest other e = absurd (apart 49 48 _ _ (omega arith) e)
one_line (false ∷ v) (true ∷ w) rest other e = absurd (apart 48 49 _ _ (omega arith) e)
one_line (true ∷ v) (true ∷ w) rest other e = let same = one_line v w rest other (ap later_bytes e) in (ap (λ l. true ∷ l) same.0, same.1)
one_line (false ∷ v) (false ∷ w) rest other e = let same = one_line v w rest other (ap later_bytes e) in (ap (λ l. false ∷ l) same.0, same.1)

-- the lines of vectors, and then the line `chip`
abbrev lines_before : List (List Bool) → List ℕ → List ℕ
lines_before vectors rest = flat_map vector_line vectors ++ (chip_word ++ 10 ∷ rest)

-- the first line stands before the others
first_line : (v : List Bool) (vectors : List (List Bool)) (rest : List ℕ) → lines_before (v ∷ vectors) rest ≡ map bit_byte v ++ 10 ∷ lines_before vectors rest
first_line v vectors rest =
    append_assoc (vector_line v) (flat_map vector_line vectors) (chip_word ++ 10 ∷ rest) ∙ append_assoc (map bit_byte v) (10 ∷ []) (lines_before vectors rest)

-- no line of a vector is the line `chip`
not_chip : (v : List Bool) (rest other : List ℕ) → map bit_byte v ++ 10 ∷ rest ≡ chip_word ++ 10 ∷ other → ⊥
not_chip [] rest other e = apart 10 99 _ _ (omega arith) e
not_chip (true ∷ v) rest other e = apart 49 99 _ _ (omega arith) e
not_chip (false ∷ v) rest other e = apart 48 99 _ _ (omega arith) e

same_vectors : (some others : List (List Bool)) (rest other : List ℕ) → lines_before some rest ≡ lines_before others other → some ≡ others
same_vectors [] [] rest other e = refl
same_vectors [] (w ∷ others) rest other e = absurd (not_chip w (lines_before others other) rest (sym (first_line w others other) ∙ sym e))
same_vectors (v ∷ some) [] rest other e = absurd (not_chip v (lines_before some rest) other (sym (first_line v some rest) ∙ e))
same_vectors (v ∷ some) (w ∷ others) rest other e =
    let lines = one_line v w (lines_before some rest) (lines_before others other) (sym (first_line v some rest) ∙ e ∙ first_line w others other) in
    let first : v ≡ w = lines.0 in
    let later : some ≡ others = same_vectors some others rest other lines.1 in
    cc

pub one_trace : (text : List ℕ) (some others : List (List Bool)) (place elsewhere : ℕ) → IsTrace text some place → IsTrace text others elsewhere
    → (some ≡ others) × (place ≡ elsewhere)
one_trace text some others place elsewhere first second =
    let same : some ≡ others = same_vectors some others first.chip second.chip
    (sym (append_assoc (flat_map vector_line some) (chip_word ++ 10 ∷ []) first.chip) ∙ sym first.whole ∙ second.whole
    ∙ append_assoc (flat_map vector_line others) (chip_word ++ 10 ∷ []) second.chip) in
    (same, first.behind ∙ ap (λ vectors. length (trace_text vectors)) same ∙ sym second.behind)
