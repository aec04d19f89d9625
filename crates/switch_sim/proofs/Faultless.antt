-- A text without fault begins with a trace, and one that begins with a trace has no fault.
use Rattle.std.proofs.Common.{◌≡◌, ◌≢◌, ℕ, zero, suc, ◌+◌, ◌<◌, ◌≤◌, ◌||◌, ◌⊎◌, inl, inr, Bool, true, false, cond, List, [], ◌∷◌, ◌++◌, Option, Some, None, length, map, take, drop, refl, sym, ap, ◌∙◌, arith, append_assoc, length-append, length-drop}
use Rattle.std.proofs.lemmas.Bool.{cases_lt}
use Rattle.std.proofs.lemmas.List.{drop-drop}
use Rattle.std.specs.List.{AllByRecursion, prefix_len, flat_map}
use Rattle.std.proofs.lemmas.List.Elements.{recursion_from_All}
use Rattle.std.specs.Option.{option_or}
use Rattle.std.specs.Prelude.{Result, Ok, Err, IfOk, IfErr}
use Rattle.switch_sim.specs.TraceTexts.{bit_byte, vector_line, chip_word, is_bit, is_empty, is_chip, line_fault, no_chip, lines_of, first_fault, trace_fault}
use Rattle.switch_sim.specs.TraceReading.{not_line_feed, bits_in, IsVectorLine, LineAt, ended_line}
use Rattle.switch_sim.specs.TraceLaws.{BeginsWithTrace}
use Rattle.switch_sim.specs.declared.trace.Line.{Line}
use Rattle.switch_sim.specs.declared.trace.Line.TheVariants.{Chip, Vector}
use Rattle.switch_sim.specs.declared.trace_code.TraceSpot.{TraceSpot}
use Rattle.switch_sim.proofs.Reading.{SoFar, begins, goes_on, ends}
use Rattle.switch_sim.proofs.TextLines.{unsplit, ended, first_of}
use Rattle.switch_sim.proofs.LineFaults.{no_fault}

some_or : (o : Option TraceSpot) (x : TraceSpot) → option_or o (Some x) ≡ None → ⊥
some_or None x e = cc
some_or (Some y) x e = cc

-- what follows the last line feed has a fault
last_faulty : (count at : ℕ) (line : List ℕ) → first_fault count at (line ∷ []) ≡ None → ⊥
last_faulty count at line e = by (is_empty line || is_chip line) e
  where
    by : (test : Bool) → cond test (no_chip (at + length line)) (option_or (line_fault count at line) (no_chip (at + length line))) ≡ None → ⊥
    by true e = cc
    by false e = some_or (line_fault count at line) _ e

module _ (text : List ℕ) where
  -- the vectors so far, and lines without fault behind them
  record Left (at : ℕ) (vectors : List (List Bool)) : Type 0 where
    pub read : SoFar text at vectors
    pub few : length vectors ≤ 10000
    pub none : first_fault (length vectors) at (lines_of (drop at text)) ≡ None

  by_line : (at : ℕ) (vectors : List (List Bool)) → Left at vectors → (r : Result Line TraceSpot)
      → IfOk r (LineAt (drop at text) at (length vectors)) → IfErr r (λ spot. first_fault (length vectors) at (lines_of (drop at text)) ≡ Some spot)
      → ((width : ℕ) → IsVectorLine (drop at text) at (length vectors) width → BeginsWithTrace text) → BeginsWithTrace text
  by_line at vectors left (Ok Chip) ok err more = (vectors, at + 4 + 1, ends text at vectors left.read (length vectors) left.few ok)
  by_line at vectors left (Ok (Vector width)) ok err more = more width ok
  by_line at vectors left (Err spot) ok err more = let none = left.none in absurd (cc)

  by_end : (at : ℕ) (vectors : List (List Bool)) → Left at vectors
      → ((width : ℕ) → IsVectorLine (drop at text) at (length vectors) width → BeginsWithTrace text) → BeginsWithTrace text
  by_end at vectors left more = by (cases_lt (prefix_len not_line_feed (drop at text)) (length (drop at text)))
    where
      by : (prefix_len not_line_feed (drop at text) < length (drop at text)) ⊎ (length (drop at text) ≤ prefix_len not_line_feed (drop at text))
          → BeginsWithTrace text
      by (inl below) =
          let kind = ended (drop at text) (length vectors) at below (ended_line (length vectors) at (take (prefix_len not_line_feed (drop at text)) (drop at text))) refl in
          by_line at vectors left _ kind.0 kind.1 more
      by (inr whole) = absurd (last_faulty (length vectors) at (drop at text)
          (sym (ap (first_fault (length vectors) at) (unsplit (drop at text) whole)) ∙ left.none))

  one_more : (at : ℕ) (vectors : List (List Bool)) → Left at vectors → (width : ℕ) → IsVectorLine (drop at text) at (length vectors) width
      → Left (at + (width + 1)) (vectors ++ bits_in (take width (drop at text)) ∷ [])
  one_more at vectors left width line =
      let size = length-append vectors (bits_in (take width (drop at text)) ∷ []) in
      let count : length vectors + 1 ≡ length (vectors ++ bits_in (take width (drop at text)) ∷ []) = omega arith in
      let sum : at + width + 1 ≡ at + (width + 1) = omega arith in
      let few = line.few in
      record {
        read = goes_on text at vectors left.read (length vectors) width line;
        few = omega arith;
        none = sym (ap (λ n. first_fault n (at + (width + 1)) (lines_of (drop (at + (width + 1)) text))) count)
            ∙ sym (ap (λ n. first_fault (length vectors + 1) n (lines_of (drop (at + (width + 1)) text))) sum)
            ∙ sym (ap (λ t. first_fault (length vectors + 1) (at + width + 1) (lines_of t)) (drop-drop (width + 1) at text))
            ∙ sym line.later ∙ left.none;
      }

  reads : (n at : ℕ) (vectors : List (List Bool)) → length (drop at text) ≤ n → Left at vectors → BeginsWithTrace text
  reads zero at vectors most left = by_end at vectors left (λ width line. let below = line.below in absurd (omega arith))
  reads (suc n) at vectors most left = by_end at vectors left (λ width line.
      let below = line.below in
      let a = length-drop at text in
      let b = length-drop (at + (width + 1)) text in
      reads n (at + (width + 1)) (vectors ++ bits_in (take width (drop at text)) ∷ []) (omega arith) (one_more at vectors left width line))

  pub faultless_begins : trace_fault text ≡ None → BeginsWithTrace text
  faultless_begins none = reads (length text) 0 [] (omega arith) (record { read = begins text; few = omega arith; none = none })

-- ---- a trace has no fault

line_stands : (vector : List Bool) (rest : List ℕ) → lines_of (map bit_byte vector ++ 10 ∷ rest) ≡ map bit_byte vector ∷ lines_of rest
line_stands [] rest = refl
line_stands (true ∷ vector) rest = rw (line_stands vector rest) refl
line_stands (false ∷ vector) rest = rw (line_stands vector rest) refl

all_bits : (vector : List Bool) → prefix_len is_bit (map bit_byte vector) ≡ length (map bit_byte vector)
all_bits [] = refl
all_bits (true ∷ vector) = rw (all_bits vector) (omega arith)
all_bits (false ∷ vector) = rw (all_bits vector) (omega arith)

no_chip_word : (vector : List Bool) → is_chip (map bit_byte vector) ≡ false
no_chip_word [] = refl
no_chip_word (true ∷ vector) = refl
no_chip_word (false ∷ vector) = refl

filled_line : (vector : List Bool) → vector ≢ [] → 0 < length (map bit_byte vector)
filled_line [] h = absurd (h refl)
filled_line (b ∷ vector) h = omega arith

no_fault_of : (count at : ℕ) (vector : List Bool) → vector ≢ [] → count < 10000 → None ≡ line_fault count at (map bit_byte vector)
no_fault_of count at vector h few =
    let bits = all_bits vector in
    let some = filled_line vector h in
    no_fault count at (map bit_byte vector) (omega arith) few (omega arith)

trace_faultless : (vectors : List (List Bool)) (rest : List ℕ) (count at : ℕ) → AllByRecursion (λ v. v ≢ []) vectors → count + length vectors ≤ 10000
    → first_fault count at (lines_of (flat_map vector_line vectors ++ (chip_word ++ 10 ∷ rest))) ≡ None
trace_faultless [] rest count at filled few = first_of count at chip_word rest
trace_faultless (v ∷ vectors) rest count at filled few =
    let behind : List ℕ = flat_map vector_line vectors ++ (chip_word ++ 10 ∷ rest) in
    let order : flat_map vector_line (v ∷ vectors) ++ (chip_word ++ 10 ∷ rest) ≡ map bit_byte v ++ 10 ∷ behind =
    append_assoc (vector_line v) (flat_map vector_line vectors) (chip_word ++ 10 ∷ rest) ∙ append_assoc (map bit_byte v) (10 ∷ []) behind in
    ap (first_fault count at) (ap lines_of order ∙ line_stands v behind) ∙ first_of count at (map bit_byte v) behind
    ∙ rw (no_chip_word v, ← no_fault_of count at v filled.0 (omega arith))
    (trace_faultless vectors rest (count + 1) (at + length (map bit_byte v) + 1) filled.1 (omega arith))

pub begins_faultless : (text : List ℕ) → BeginsWithTrace text → trace_fault text ≡ None
begins_faultless text h =
    let trace = h.2 in
    let few = trace.few in
    let whole : text ≡ flat_map vector_line h.0 ++ (chip_word ++ 10 ∷ trace.chip) =
    trace.whole ∙ append_assoc (flat_map vector_line h.0) (chip_word ++ 10 ∷ []) trace.chip in
    ap trace_fault whole ∙ trace_faultless h.0 trace.chip 0 0 (recursion_from_All (λ v. v ≢ []) h.0 trace.filled) (omega arith)
