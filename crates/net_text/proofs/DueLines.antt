-- Words of lines that the reader of network texts reads, and its faults there.
use Rattle.std.proofs.Common.{◌≡◌, ◌⊎◌, inl, inr, ℕ, ◌+◌, ◌≤◌, Bool, true, false, if◌then◌else◌, List, [], ◌∷◌, ◌++◌, Option, Some, None, take, drop, length, refl, sym, ap, ◌∙◌, subst, append_assoc, append-nil, arith}
use Rattle.std.specs.Prelude.{MatchResult, find}
use Rattle.std.proofs.lemmas.Bool.{eqb-true, eq-eqb}
use Rattle.std.proofs.lemmas.List.{length-take-le, take-append-drop}
use Rattle.net_text.specs.Shape.{IsNumeral}
use Rattle.net_text.specs.NetRefusals.{NumberBegins}
use Rattle.net_text.specs.Reading.{agreeing, longest, first_lines, later_lines, line_word, begins_line, line_found, line_at}
use Rattle.net_text.specs.Stages.{IsNumeralBelow, BehindWord, LinesDue, Stage, DueAt}
use Rattle.net_text.specs.declared.line_kind.LineKind.{LineKind}
use Rattle.net_text.specs.declared.line_kind.LineKind.TheVariants.{Pass}
use Rattle.net_text.specs.declared.net_fault.NetCode.TheVariants.{N1}
use Rattle.net_text.proofs.Advancing.{quiet_front, no_number, advance, restage}
use Rattle.net_text.proofs.Agreeing.{agree_take, agree_within, agree_whole}
use Rattle.net_text.proofs.Cuts.{cancel}
use Rattle.net_text.proofs.LineWords.{kinds_due, one_kind, word_quiet, by_word, from_word, some_behind, pass_among}
use Rattle.net_text.proofs.Searches.{Among, none_passes, found_among, most_at_least, most_reached}
use Rattle.net_text.proofs.NoWord.{word_stop}
use Rattle.net_text.proofs.Placed.{moved, Stopped, stopped, due_on}

-- behind the same word the same is due
same_word : (N : List ℕ → Type 0) (kind other : LineKind) (tail behind : List ℕ) → line_word kind ++ tail ≡ line_word other ++ behind
    → BehindWord other N behind → BehindWord kind N tail
same_word N kind other tail behind e h =
    let same = one_kind kind other tail behind e in
    let rest : tail ≡ behind = cancel (line_word kind) tail behind (e ∙ ap (λ k. line_word k ++ behind) (sym same)) in
    rw (same, rest) h

-- a word is no front of another
no_front : (kind other : LineKind) (xs : List ℕ) (c : ℕ) (ys behind : List ℕ) → line_word kind ≡ xs ++ c ∷ ys → xs ≡ line_word other ++ behind → ⊥
no_front kind other xs c ys behind e f =
    let whole : line_word kind ++ [] ≡ line_word other ++ (behind ++ c ∷ ys) =
    append-nil (line_word kind) ∙ e ∙ ap (λ l. l ++ c ∷ ys) f ∙ append_assoc (line_word other) behind (c ∷ ys) in
    let same = one_kind kind other [] (behind ++ c ∷ ys) whole in
    none behind (cancel (line_word kind) [] (behind ++ c ∷ ys) (whole ∙ ap (λ k. line_word k ++ (behind ++ c ∷ ys)) (sym same)))
  where
    none : (behind : List ℕ) → [] ≡ behind ++ c ∷ ys → ⊥
    none [] e = cc
    none (x ∷ behind) e = cc

module _ (nets : ℕ) (b : Bool) (front : List ℕ) where
  -- behind the word of a line
  line_step : (rest : List ℕ) (kind : LineKind) → Among (kinds_due b) kind
      → Stage nets front (line_word kind ++ rest) (LinesDue b IsNumeral) (LinesDue b (IsNumeralBelow nets))
      → Stage nets (front ++ line_word kind) rest (BehindWord kind IsNumeral) (BehindWord kind (IsNumeralBelow nets))
  line_step rest kind among stage =
      restage nets (front ++ line_word kind) rest
      (advance nets front rest (line_word kind) (LinesDue b IsNumeral) (LinesDue b (IsNumeralBelow nets)) stage some.0
      (from_word IsNumeral b kind some.0 among some.1)
      (λ xs c ys e k. let word = by_word IsNumeral b xs k in no_front kind word.kind xs c ys word.behind e word.is)
      (λ xs c ys e s. quiet_in xs c ys e s.0) (λ xs c ys e s. quiet_in xs c ys e s.0))
      (λ tail k. behind IsNumeral tail k) (λ tail k. from_word IsNumeral b kind tail among k) (λ tail k. behind (IsNumeralBelow nets) tail k)
    where
      some : (t : List ℕ) × BehindWord kind IsNumeral t
      some = some_behind kind

      quiet_in : (xs : List ℕ) (c : ℕ) (ys : List ℕ) → line_word kind ≡ xs ++ c ∷ ys → NumberBegins (front ++ xs) (c ∷ ys ++ rest) → ⊥
      quiet_in xs c ys e n = no_number front xs c ys rest (rw e at (word_quiet kind)) n

      behind : (N : List ℕ → Type 0) (tail : List ℕ) → LinesDue b N (line_word kind ++ tail) → BehindWord kind N tail
      behind N tail k = let word = by_word N b (line_word kind ++ tail) k in same_word N kind word.kind tail word.behind word.is word.more

-- What stands behind the word of a line that was read.
pub record LineRead (nets : ℕ) (b : Bool) (text : List ℕ) (at : ℕ) (read : LineKind × ℕ) : Type 0 where
  pub among : Among (kinds_due b) read.0
  pub due : DueAt nets text read.1 (BehindWord read.0)

module _ (nets : ℕ) (b : Bool) (text : List ℕ) (at : ℕ) (within : at ≤ length text) (due : DueAt nets text at (LinesDue b)) where
  -- a word was found
  found : (kind : LineKind) → find (begins_line (drop at text)) (kinds_due b) ≡ Some kind → LineRead nets b text at (kind, at + length (line_word kind))
  found kind e =
      let (among, passes) = found_among (begins_line (drop at text)) (kinds_due b) kind e in
      let whole : agreeing (line_word kind) (drop at text) ≡ length (line_word kind) = eqb-true _ _ passes in
      let behind = drop (length (line_word kind)) (drop at text) in
      let cut : drop at text ≡ line_word kind ++ behind = agree_whole (line_word kind) (drop at text) whole in
      let (there, rest_is) = moved text at (line_word kind) behind within cut in
      let stage = line_step nets b (take at text) behind kind among (rw cut at due.stage) in
      record {
        among = among;
        due = due_on (line_word kind) _ _ due there.front there.rest (rw (there.front, rest_is) stage);
      }

  -- none was found
  missing : find (begins_line (drop at text)) (kinds_due b) ≡ None → Stopped nets text (record { code = N1; at = at + longest (kinds_due b) (drop at text) })
  missing e = by_most (most_reached agree 0 (kinds_due b))
    where
      agree : LineKind → ℕ
      agree kind = agreeing (line_word kind) (drop at text)

      count : ℕ
      count = longest (kinds_due b) (drop at text)

      by_word_reached : (kind : LineKind) → Among (kinds_due b) kind → count ≤ length (drop at text) → take count (drop at text) ≡ take count (line_word kind)
          → Stopped nets text (record { code = N1; at = at + count })
      by_word_reached kind among inside same =
          let w = take count (drop at text) in
          let size : length w ≡ count = length-take-le count (drop at text) inside in
          let cut : w ++ drop count (drop at text) ≡ drop at text = take-append-drop count (drop at text) in
          let word : line_word kind ≡ w ++ drop count (line_word kind) = sym (take-append-drop count (line_word kind)) ∙ ap (λ l. l ++ drop count (line_word kind)) (sym same) in
          let some = some_behind kind in
          let goes_on : LinesDue b IsNumeral (w ++ (drop count (line_word kind) ++ some.0)) =
          subst (LinesDue b IsNumeral) (ap (λ l. l ++ some.0) word ∙ append_assoc w (drop count (line_word kind)) some.0) (from_word IsNumeral b kind some.0 among some.1) in
          let none = quiet_front true w (drop count (line_word kind)) (rw word at (word_quiet kind)) in
          let stops =
          word_stop nets (take at text) w (drop count (drop at text)) (rw (← cut) at due.stage)
          (λ v. (k : LineKind) × Among (kinds_due b) k × (v ≡ line_word k))
          (λ t k. let due_word = by_word IsNumeral b t k in (line_word due_word.kind, due_word.behind, (due_word.kind, due_word.among, refl), due_word.is))
          (λ v is whole. none_passes (begins_line (drop at text)) (kinds_due b) is.0 e is.1 (eq-eqb _ _ (rw (cut, is.2) at whole)))
          (λ v is. rw (cut, is.2, size) (most_at_least agree 0 (kinds_due b) is.0 is.1))
          (λ xs c ys f s. no_number (take at text) xs c ys (drop count (drop at text)) (rw f at none) s.0)
          (λ xs c ys f s. no_number (take at text) xs c ys (drop count (drop at text)) (rw f at none) s.0)
          (drop count (line_word kind) ++ some.0) goes_on in
          rw size at (stopped nets text at w (drop count (drop at text)) N1 within (sym cut) stops)

      by_most : (count ≡ 0) ⊎ ((kind : LineKind) × Among (kinds_due b) kind × (agree kind ≡ count)) → Stopped nets text (record { code = N1; at = at + count })
      by_most (inl none) = by_word_reached Pass (pass_among b) (omega (arith, none)) (rw none refl)
      by_most (inr (kind, among, reached)) =
          by_word_reached kind among (omega (arith, reached, (agree_within (line_word kind) (drop at text)).1))
          (rw (← reached) (agree_take (line_word kind) (drop at text)))

  pub line_read : MatchResult (line_at (kinds_due b) at (drop at text)) (LineRead nets b text at) (Stopped nets text)
  line_read = by_find (find (begins_line (drop at text)) (kinds_due b)) refl
    where
      by_find : (r : Option LineKind) → find (begins_line (drop at text)) (kinds_due b) ≡ r
          → MatchResult (line_found (kinds_due b) at (drop at text) r) (LineRead nets b text at) (Stopped nets text)
      by_find None e = missing e
      by_find (Some kind) e = found kind e

-- by which lines may follow
pub first_word_read : (nets : ℕ) (b : Bool) (text : List ℕ) (at : ℕ) → at ≤ length text → DueAt nets text at (LinesDue b)
    → MatchResult (line_at (if b then first_lines else later_lines) at (drop at text)) (LineRead nets b text at) (Stopped nets text)
first_word_read nets true text at within due = line_read nets true text at within due
first_word_read nets false text at within due = line_read nets false text at within due
