-- What stands behind a part.
use Rattle.std.proofs.Common.{◌≡◌, ◌≢◌, inl, inr, ℕ, ◌+◌, Bool, true, false, ◌&&◌, List, [], ◌∷◌, ◌++◌, length, drop, refl, sym, ◌∙◌, ap, subst, append_assoc, arith}
use Rattle.std.specs.List.{list_all, prefix_len}
use Rattle.std.proofs.lemmas.List.{drop-drop, drop_at}
use Rattle.rx_text.specs.NumberInText.{is_digit}
use Rattle.geom.specs.CifCommands.{CifPart, Letters, Unsigned, Signed, SpellsPart, SpellsParts, AreCifBlanks, WritesNumber, needs_blank, is_number_part, is_cif_blank}
use Rattle.cif_syntax.specs.Ends.{between}
use Rattle.cif_values.specs.Parts.{is_plain, PartsAt}
use Rattle.cif_values.specs.Runs.{behind_blanks}
use Rattle.cif_values.proofs.Bytes.{digit_no_blank, capital_no_digit, capital_no_blank, blank_no_digit, all_first}
use Rattle.cif_values.proofs.Texts.{rest_between, Cut, cut_at, Fails, run_exact, drop_first}

-- ---- the first byte of parts

-- digits begin with a digit
digits_begin : (n : ℕ) (word more : List ℕ) → WritesNumber n word → Fails is_cif_blank (word ++ more)
digits_begin n [] more w = absurd (w.some refl)
digits_begin n (b ∷ bs) more w = digit_no_blank b (all_first is_digit b bs w.digits).0

-- no plain part begins with a blank
part_begins : (p : CifPart) (word more : List ℕ) → is_plain p ≡ true → SpellsPart p word → Fails is_cif_blank (word ++ more)
part_begins (Letters []) word more h s = absurd cc
part_begins (Letters (b ∷ w)) word more h s =
    let P : List ℕ → Type 0 = λ l. Fails is_cif_blank (l ++ more) in subst P (sym s) (capital_no_blank b h)
part_begins (Unsigned n) word more h s = digits_begin n word more s
part_begins (Signed z) word more h (inl w) = digits_begin w.0 word more w.2
part_begins (Signed z) word more h (inr w) = let P : List ℕ → Type 0 = λ l. Fails is_cif_blank (l ++ more) in subst P (sym w.3) refl

-- nor do parts before a semicolon
parts_begin : (ps : List CifPart) (bytes more : List ℕ) → list_all is_plain ps ≡ true → SpellsParts ps bytes → Fails is_cif_blank (bytes ++ 59 ∷ more)
parts_begin [] bytes more h s = let P : List ℕ → Type 0 = λ l. Fails is_cif_blank (l ++ 59 ∷ more) in subst P (sym s) refl
parts_begin (p ∷ ps) bytes more h s =
    let P : List ℕ → Type 0 = λ l. Fails is_cif_blank l in
    let e : bytes ++ 59 ∷ more ≡ s.word ++ (s.gap ++ (s.rest ++ 59 ∷ more)) =
    ap (λ (l : List ℕ). l ++ 59 ∷ more) s.is
    ∙ (append_assoc (s.word ++ s.gap) s.rest (59 ∷ more) ∙ append_assoc s.word s.gap (s.rest ++ 59 ∷ more)) in
    subst P (sym e) (part_begins p s.word (s.gap ++ (s.rest ++ 59 ∷ more)) (all_first is_plain p ps h).0 s.spelled)

-- no digit stands behind a number
next_no_digit : (p q : CifPart) (ps : List CifPart) (bytes more : List ℕ) → is_number_part p ≡ true → is_plain q ≡ true → needs_blank p (q ∷ ps) ≡ false
    → SpellsParts (q ∷ ps) bytes → Fails is_digit (bytes ++ more)
next_no_digit p (Letters []) ps bytes more n h f s = absurd cc
next_no_digit p (Letters (b ∷ w)) ps bytes more n h f s =
    let P : List ℕ → Type 0 = λ l. Fails is_digit l in
    let e : bytes ++ more ≡ b ∷ (w ++ (s.gap ++ (s.rest ++ more))) =
    ap (λ (l : List ℕ). l ++ more) s.is
    ∙ (append_assoc (s.word ++ s.gap) s.rest more ∙ (append_assoc s.word s.gap (s.rest ++ more) ∙ ap (λ (l : List ℕ). l ++ (s.gap ++ (s.rest ++ more))) s.spelled)) in
    subst P (sym e) (capital_no_digit b h)
next_no_digit p (Unsigned m) ps bytes more n h f s = let z : true ≡ false = sym (ap (λ (v : Bool). v && true) n) ∙ f in absurd cc
next_no_digit p (Signed m) ps bytes more n h f s = let z : true ≡ false = sym (ap (λ (v : Bool). v && true) n) ∙ f in absurd cc

rest_no_digit : (p : CifPart) (ps : List CifPart) (bytes more : List ℕ) → is_number_part p ≡ true → list_all is_plain ps ≡ true → needs_blank p ps ≡ false
    → SpellsParts ps bytes → Fails is_digit (bytes ++ 59 ∷ more)
rest_no_digit p [] bytes more n h f s = let P : List ℕ → Type 0 = λ l. Fails is_digit (l ++ 59 ∷ more) in subst P (sym s) refl
rest_no_digit p (q ∷ ps) bytes more n h f s = next_no_digit p q ps bytes (59 ∷ more) n (all_first is_plain q ps h).0 f s

pub gap_no_digit : (p : CifPart) (ps : List CifPart) (gap bytes more : List ℕ) → is_number_part p ≡ true → list_all is_plain ps ≡ true → AreCifBlanks gap
    → (needs_blank p ps ≡ true → gap ≢ []) → SpellsParts ps bytes → Fails is_digit (gap ++ (bytes ++ 59 ∷ more))
gap_no_digit p ps [] bytes more n h b a s = rest_no_digit p ps bytes more n h (by (needs_blank p ps) refl) s
  where
    by : (t : Bool) → needs_blank p ps ≡ t → t ≡ false
    by true e = absurd (a e refl)
    by false e = refl
gap_no_digit p ps (g ∷ gs) bytes more n h b a s = blank_no_digit g (all_first is_cif_blank g gs b).0

-- ---- the place behind a part

-- the bytes from a place on
pub from_there : (text : List ℕ) (at stop : ℕ) (p : CifPart) (ps : List CifPart) → (h : PartsAt text at stop (p ∷ ps))
    → drop at text ≡ h.spelled.word ++ (h.spelled.gap ++ (h.spelled.rest ++ 59 ∷ drop (stop + 1) text))
from_there text at stop p ps h =
    let s = h.spelled in
    let tail : drop stop text ≡ 59 ∷ drop (stop + 1) text =
    drop_first text stop h.within ∙ ap (λ (b : ℕ). b ∷ drop (stop + 1) text) h.semicolon in
    sym (rest_between text at stop h.order)
    ∙ (ap (λ (l : List ℕ). between text at stop ++ l) tail
    ∙ (ap (λ (l : List ℕ). l ++ 59 ∷ drop (stop + 1) text) s.is
    ∙ (append_assoc (s.word ++ s.gap) s.rest (59 ∷ drop (stop + 1) text) ∙ append_assoc s.word s.gap (s.rest ++ 59 ∷ drop (stop + 1) text))))

-- the word of a part, and the parts behind it
pub record Behind (text : List ℕ) (at stop : ℕ) (ps : List CifPart) (word : List ℕ) : Type 0 where
  pub word_is : between text at (at + length word) ≡ word
  pub parts : PartsAt text (behind_blanks text (at + length word)) stop ps

pub behind_part : (text : List ℕ) (at stop : ℕ) (p : CifPart) (ps : List CifPart) (h : PartsAt text at stop (p ∷ ps)) → Behind text at stop ps h.spelled.word
behind_part text at stop p ps h =
    let s = h.spelled in
    let tail : List ℕ = 59 ∷ drop (stop + 1) text in
    let is : between text at stop ≡ s.word ++ (s.gap ++ s.rest) = s.is ∙ append_assoc s.word s.gap s.rest in
    let first : Cut text at stop s.word (s.gap ++ s.rest) = cut_at text at stop s.word (s.gap ++ s.rest) h.order (omega (arith, h.within)) is in
    let second : Cut text (at + length s.word) stop s.gap s.rest = cut_at text (at + length s.word) stop s.gap s.rest first.order (omega (arith, h.within)) first.second in
    let plain : list_all is_plain ps ≡ true = (all_first is_plain p ps h.plain).1 in
    let there : drop (at + length s.word) text ≡ s.gap ++ (s.rest ++ tail) =
    sym (drop-drop (length s.word) at text)
    ∙ (ap (drop (length s.word)) (from_there text at stop p ps h) ∙ drop_at s.word (s.gap ++ (s.rest ++ tail)) (length s.word) refl) in
    let blanks : prefix_len is_cif_blank (drop (at + length s.word) text) ≡ length s.gap =
    ap (prefix_len is_cif_blank) there ∙ run_exact is_cif_blank s.gap (s.rest ++ tail) s.blanks (parts_begin ps s.rest (drop (stop + 1) text) plain s.more) in
    let P : ℕ → Type 0 = λ n. PartsAt text (at + length s.word + n) stop ps in
    let Q : List ℕ → Type 0 = λ l. SpellsParts ps l in
    record {
      word_is = first.first;
      parts = subst P (sym blanks) (record {
        order = second.order;
        within = h.within;
        semicolon = h.semicolon;
        plain = plain;
        spelled = subst Q (sym second.second) s.more;
      });
    }
