-- The first line of a text.
use Rattle.std.proofs.Common.{◌≡◌, ℕ, suc, ◌+◌, ◌<◌, ◌≤◌, Bool, true, false, cond, List, [], ◌∷◌, ◌++◌, Option, Some, None, length, take, drop, refl, sym, ap, ◌∙◌, subst, arith}
use Rattle.std.proofs.lemmas.List.Folds.{length-prefix_len}
use Rattle.std.proofs.lemmas.Bool.{eqb-true, eqb-false, ltb-false, leb-false, or_parts}
use Rattle.std.proofs.lemmas.List.Sums.{prefix_len_passes}
use Rattle.std.specs.List.{prefix_len}
use Rattle.std.specs.Option.{option_or}
use Rattle.rx_text.specs.TextPlace.{is_line_feed}
use Rattle.switch_sim.specs.TraceTexts.{too_many, earlier, lines_of, chip_word, is_bit, bad_bit, is_chip, line_fault, first_fault}
use Rattle.switch_sim.specs.TraceReading.{not_line_feed, IsChipLine, IsVectorLine, LineAt, ended_line, unless_fault}
use Rattle.switch_sim.specs.declared.trace.Line.{Line}
use Rattle.switch_sim.specs.declared.trace.Line.TheVariants.{Chip}
use Rattle.std.specs.Prelude.{Result, Ok, IfOk, IfErr, All, nat_le}
use Rattle.std.proofs.lemmas.Slice.Eq.{bytes_eq-Decides}
use Rattle.switch_sim.specs.declared.trace_code.TraceSpot.{TraceSpot}

-- a line, and what is behind its line feed
pub record Split (rest : List ℕ) (width : ℕ) : Type 0 where
  pub cut : rest ≡ take width rest ++ 10 ∷ drop (width + 1) rest
  pub lines : lines_of rest ≡ take width rest ∷ lines_of (drop (width + 1) rest)

longer : (byte : ℕ) (rest : List ℕ) (n : ℕ) → is_line_feed byte ≡ false → Split rest n → Split (byte ∷ rest) (suc n)
longer byte rest n e h =
    let next : suc n + 1 ≡ suc (n + 1) = omega arith in
    record { cut = rw next (ap (λ l. byte ∷ l) h.cut); lines = rw (next, e, h.lines) refl }

pub split : (rest : List ℕ) → prefix_len not_line_feed rest < length rest → Split rest (prefix_len not_line_feed rest)
split [] lt = absurd (omega arith)
split (byte ∷ rest) lt = by (is_line_feed byte) refl (split rest)
  where
    by : (test : Bool) → is_line_feed byte ≡ test → (prefix_len not_line_feed rest < length rest → Split rest (prefix_len not_line_feed rest))
        → Split (byte ∷ rest) (prefix_len not_line_feed (byte ∷ rest))
    by true e later = rw e (record { cut = ap (λ b. b ∷ rest) (eqb-true byte 10 e); lines = rw e refl })
    by false e later =
        let below : prefix_len not_line_feed rest < length rest = let h = rw e at lt in omega arith in
        let width : suc (prefix_len not_line_feed rest) ≡ prefix_len not_line_feed (byte ∷ rest) = rw e (omega arith) in
        subst (Split (byte ∷ rest)) width (longer byte rest (prefix_len not_line_feed rest) e (later below))

-- a text without a line feed is one line
pub unsplit : (rest : List ℕ) → length rest ≤ prefix_len not_line_feed rest → lines_of rest ≡ rest ∷ []
unsplit [] le = refl
unsplit (byte ∷ rest) le = by (is_line_feed byte) refl (unsplit rest)
  where
    by : (test : Bool) → is_line_feed byte ≡ test → (length rest ≤ prefix_len not_line_feed rest → lines_of rest ≡ rest ∷ [])
        → lines_of (byte ∷ rest) ≡ (byte ∷ rest) ∷ []
    by true e later = let h = rw e at le in absurd (omega arith)
    by false e later = let h = rw e at le in rw (e, later (omega arith)) refl

lines_some : (text : List ℕ) → (line : List ℕ) × (more : List (List ℕ)) × (lines_of text ≡ line ∷ more)
lines_some [] = ([], [], refl)
lines_some (byte ∷ text) = by (is_line_feed byte) refl (lines_some text)
  where
    by : (test : Bool) → is_line_feed byte ≡ test → (line : List ℕ) × (more : List (List ℕ)) × (lines_of text ≡ line ∷ more)
        → (line : List ℕ) × (more : List (List ℕ)) × (lines_of (byte ∷ text) ≡ line ∷ more)
    by true e s = ([], lines_of text, rw e refl)
    by false e s = (byte ∷ s.0, s.1, rw (e, s.2) refl)

-- ---- the first fault by the first line

module _ (count at : ℕ) (line rest : List ℕ) where
  -- behind a line
  by_line : (lines : List (List ℕ)) → lines_of rest ≡ lines → first_fault count at (line ∷ lines)
      ≡ cond (is_chip line) None (option_or (line_fault count at line) (first_fault (count + 1) (at + length line + 1) lines))
  by_line [] e = let s = lines_some rest in absurd (cc)
  by_line (next ∷ more) e = refl

  pub first_of : first_fault count at (line ∷ lines_of rest)
      ≡ cond (is_chip line) None (option_or (line_fault count at line) (first_fault (count + 1) (at + length line + 1) (lines_of rest)))
  first_of = by_line (lines_of rest) refl

-- ---- what the first line is

-- the word `chip` alone is read as such
chip_is : (line : List ℕ) → is_chip line ≡ true → line ≡ chip_word
chip_is line e = (bytes_eq-Decides line chip_word).0 e

-- a line without fault
record Good (count : ℕ) (line : List ℕ) : Type 0 where
  pub bits : All (λ byte. is_bit byte ≡ true) line
  pub filled : 0 < length line
  pub few : count < 10000

neither : (a b : Option TraceSpot) → earlier a b ≡ None → (a ≡ None) × (b ≡ None)
neither None None e = (refl, refl)
neither None (Some b) e = absurd (cc)
neither (Some a) None e = absurd (cc)
neither (Some a) (Some b) e = by (nat_le a.at b.at) e
  where
    by : (test : Bool) → cond test (Some a) (Some b) ≡ None → (Some a ≡ None) × (Some b ≡ None)
    by true e = absurd (cc)
    by false e = absurd (cc)

not_given : {X : Type 0} (test : Bool) (x : X) → cond test (Some x) None ≡ None → test ≡ false
not_given true x e = absurd (cc)
not_given false x e = refl

good : (count at : ℕ) (line : List ℕ) → line_fault count at line ≡ None → Good count line
good count at line e =
    let none = neither (bad_bit at line) (too_many count at) e in
    let tests = or_parts _ _ (not_given _ _ none.0) in
    let all = ltb-false (prefix_len is_bit line) (length line) tests.0 in
    let some = eqb-false (length line) 0 tests.1 in
    record {
      bits = λ k d lt. prefix_len_passes is_bit line k d (omega arith);
      filled = omega arith;
      few = leb-false 10000 count (not_given _ _ none.1);
    }

module _ (rest : List ℕ) (count at : ℕ) (below : prefix_len not_line_feed rest < length rest) where
  abbrev width : ℕ
  width = prefix_len not_line_feed rest

  abbrev line : List ℕ
  line = take width rest

  line_size : length line ≡ width
  line_size = length-prefix_len not_line_feed rest

  whole : first_fault count at (lines_of rest)
      ≡ cond (is_chip line) None (option_or (line_fault count at line) (first_fault (count + 1) (at + length line + 1) (lines_of (drop (width + 1) rest))))
  whole = ap (first_fault count at) (split rest below).lines ∙ first_of count at line (drop (width + 1) rest)

  chip_line : is_chip line ≡ true → IsChipLine rest at count
  chip_line e =
      let word : line ≡ chip_word = chip_is line e in
      let four : width ≡ 4 = sym line_size ∙ ap length word in
      record {
        within = omega arith;
        cut = (split rest below).cut ∙ rw word (ap (λ n. chip_word ++ 10 ∷ drop (n + 1) rest) four);
        faultless = whole ∙ rw e refl;
      }

  vector_line : is_chip line ≡ false → line_fault count at line ≡ None → IsVectorLine rest at count (length line)
  vector_line e f =
      let g = good count at line f in
      subst (IsVectorLine rest at count) (sym line_size) (record {
        below = below;
        cut = (split rest below).cut;
        bits = g.bits;
        filled = subst (λ n. 0 < n) line_size g.filled;
        few = g.few;
        later = whole ∙ rw (e, f) (ap (λ n. first_fault (count + 1) (at + n + 1) (lines_of (drop (width + 1) rest))) line_size);
      })

  pub ended : (r : Result Line TraceSpot) → r ≡ ended_line count at line
      → IfOk r (LineAt rest at count) × IfErr r (λ spot. first_fault count at (lines_of rest) ≡ Some spot)
  ended r e = subst (λ r. IfOk r (LineAt rest at count) × IfErr r (λ spot. first_fault count at (lines_of rest) ≡ Some spot)) (sym e)
      (by (is_chip line) refl (line_fault count at line) refl)
    where
      by : (test : Bool) → is_chip line ≡ test → (fault : Option TraceSpot) → line_fault count at line ≡ fault
          → IfOk (cond test (Ok Chip) (unless_fault fault (length line))) (LineAt rest at count)
          × IfErr (cond test (Ok Chip) (unless_fault fault (length line))) (λ spot. first_fault count at (lines_of rest) ≡ Some spot)
      by true t fault f = (chip_line t, tt)
      by false t None f = (vector_line t f, tt)
      by false t (Some spot) f = (tt, whole ∙ rw (t, f) refl)
