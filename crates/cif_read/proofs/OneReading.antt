-- Texts have one reading: what stands first is one thing, and leads to one state.
use Rattle.std.proofs.Common.{◌≡◌, ◌⊎◌, inl, inr, ℕ, ◌<◌, ◌==◌, Bool, true, false, ◌&&◌, cond, List, [], ◌∷◌, ◌++◌, Option, IsSome, IsNone, codes, refl, sym, ◌∙◌, ap, subst, append_assoc, arith}
use Rattle.std.specs.List.{list_all, take_while}
use Rattle.std.proofs.lemmas.Bool.{cases_lt}
use Rattle.std.proofs.lemmas.List.Sums.{take_while-cons}
use Rattle.rx_text.specs.TextPlace.{place_behind}
use Rattle.rx_text.specs.declared.place.Place.{Place}
use Rattle.geom.specs.declared.layer.Layer.{Layer}
use Rattle.geom.specs.declared.point.Point.{Point}
use Rattle.geom.specs.declared.cif_code.CifCode.{CifCode}
use Rattle.geom.specs.declared.cif_code.CifCode.TheVariants.{C1, C2, C3, C4, C5, C6, C7, C8, C9, C10, C11, C12, C13, C14, C15}
use Rattle.geom.specs.Squares.{BoxShape}
use Rattle.geom.specs.CifShapes.{ArePolygonBoxes}
use Rattle.geom.specs.CifCommands.{CifCommand, AreCifBlanks, is_cif_blank}
use Rattle.geom.specs.CifDrawings.{CifState, CifOpening, blank_state, CommandLeads}
use Rattle.geom.specs.CifCodes.{MeetsCode, code_number}
use Rattle.geom.specs.CifRefusals.{CommandHere, IsSentence, BreaksCommand, CutsCommand, CommandFault, CommandRead, DrawsFrom, RefusedFrom, front_with}
use Rattle.geom.specs.CifRefusals.CommandFault.{breaks, cuts, outside, meets, end_within, behind_end}
use Rattle.geom.specs.CifRefusals.DrawsFrom.{end as ends, command as goes}
use Rattle.geom.specs.CifRefusals.RefusedFrom.{here, later}
use Rattle.cif_syntax.specs.Apart.{SentencesAreApart}
use Rattle.cif_read.specs.OneReading.{TextsHaveOneReading}
use Rattle.cif_read.proofs.Runs.{Fails, fails_at, heads, tails, all_first, one_run}
use Rattle.cif_read.proofs.Spelled.{first_is_no_blank, one_command}
use Rattle.cif_read.proofs.OneState.{one_state}

-- ---- blanks, and what stands behind them

record Split (rest gap tail : List ℕ) : Type 0 where
  is : rest ≡ gap ++ tail
  blanks : AreCifBlanks gap
  stop : Fails is_cif_blank tail

one_split : (rest gap tail other more : List ℕ) → Split rest gap tail → Split rest other more → (gap ≡ other) × (tail ≡ more)
one_split rest gap tail other more a b = one_run is_cif_blank gap other tail more a.blanks b.blanks a.stop b.stop (sym a.is ∙ b.is)

-- a sentence stands behind blanks
record Sentence (rest gap xs more : List ℕ) : Type 0 where
  split : Split rest gap (xs ++ more)
  sentence : IsSentence xs

cut_left : (w xs ys : List ℕ) → w ++ xs ≡ w ++ ys → xs ≡ ys
cut_left [] xs ys e = e
cut_left (b ∷ w) xs ys e = cut_left w xs ys (tails e)

record Agree (gap other xs ys more rest : List ℕ) : Type 0 where
  gaps : gap ≡ other
  sentences : xs ≡ ys
  behind : more ≡ rest

agree : SentencesAreApart → (rest gap other xs ys more behind : List ℕ) → Sentence rest gap xs more → Sentence rest other ys behind
    → Agree gap other xs ys more behind
agree apart rest gap other xs ys more behind a b =
    let s = one_split rest gap (xs ++ more) other (ys ++ behind) a.split b.split in
    let x = apart.one_sentence xs ys more behind a.sentence b.sentence s.1 in
    record { gaps = s.0; sentences = x; behind = cut_left ys more behind (ap (λ (l : List ℕ). l ++ more) (sym x) ∙ s.1) }

-- ---- blanks before a sentence that breaks or is cut

taken_by : (p : ℕ → Bool) (b : ℕ) (bs : List ℕ) (t : Bool) → p b ≡ t → [] ≡ cond t (b ∷ take_while p bs) [] → p b ≡ false
taken_by p b bs true e z = absurd cc
taken_by p b bs false e z = e

taken_on : (p : ℕ → Bool) (b : ℕ) (gap bs : List ℕ) (t : Bool) → p b ≡ t → b ∷ gap ≡ cond t (b ∷ take_while p bs) [] → (p b ≡ true) ×
    (gap ≡ take_while p bs)
taken_on p b gap bs true e z = (e, tails z)
taken_on p b gap bs false e z = absurd cc

taken : (p : ℕ → Bool) (gap tail : List ℕ) → gap ≡ take_while p (gap ++ tail) → (list_all p gap ≡ true) × Fails p tail
taken p [] [] e = (refl, tt)
taken p [] (b ∷ bs) e = (refl, taken_by p b bs (p b) refl (e ∙ take_while-cons p b bs))
taken p (b ∷ gap) tail e =
    let f = taken_on p b gap (gap ++ tail) (p b) refl (e ∙ take_while-cons p b (gap ++ tail)) in
    let again = taken p gap tail f.1 in
    (all_join p b gap f.0 again.0, again.1)
  where
    all_join : (p : ℕ → Bool) (b : ℕ) (l : List ℕ) → p b ≡ true → list_all p l ≡ true → list_all p (b ∷ l) ≡ true
    all_join p b l h k = by (p b) (list_all p l) h k
      where
        by : (s t : Bool) → s ≡ true → t ≡ true → (s && t) ≡ true
        by true true h k = refl
        by false t h k = absurd cc
        by true false h k = absurd cc

split_taken : (rest gap tail : List ℕ) → rest ≡ gap ++ tail → gap ≡ take_while is_cif_blank rest → Split rest gap tail
split_taken rest gap tail e g =
    let t = taken is_cif_blank gap tail (g ∙ ap (take_while is_cif_blank) e) in record { is = e; blanks = t.0; stop = t.1 }

-- ---- what stands first

more_fails : (p : ℕ → Bool) (b : ℕ) (xs more : List ℕ) → Fails p (xs ++ b ∷ []) → Fails p ((xs ++ b ∷ []) ++ more)
more_fails p b [] more h = h
more_fails p b (x ∷ xs) more h = h

command_here : (rest : List ℕ) (h : CommandHere rest) → Sentence rest h.gap (h.bytes ++ codes ";") h.behind
command_here rest h = record {
  split = record {
    is =
        h.is ∙ (append_assoc h.gap h.bytes (59 ∷ h.behind)
        ∙ ap (λ (l : List ℕ). h.gap ++ l) (sym (append_assoc h.bytes (codes ";") h.behind)));
    blanks = h.blanks;
    stop = more_fails is_cif_blank 59 h.bytes h.behind (first_is_no_blank h.command h.bytes h.spelled);
  };
  sentence = IsSentence.command (h.bytes ++ codes ";") h.bytes h.command refl h.spelled;
}

word_fails : (word behind : List ℕ) → (word ≡ codes "R") ⊎ (word ≡ codes "DD") → Fails is_cif_blank (word ++ behind)
word_fails word behind (inl e) = fails_at is_cif_blank (codes "R" ++ behind) (word ++ behind) (ap (λ (l : List ℕ). l ++ behind) (sym e)) refl
word_fails word behind (inr e) = fails_at is_cif_blank (codes "DD" ++ behind) (word ++ behind) (ap (λ (l : List ℕ). l ++ behind) (sym e)) refl

word_here : (rest gap word behind : List ℕ) → rest ≡ gap ++ word ++ behind → AreCifBlanks gap → (word ≡ codes "R") ⊎ (word ≡ codes "DD")
    → Sentence rest gap word behind
word_here rest gap word behind e b w = record {
  split = record { is = e ∙ append_assoc gap word behind; blanks = b; stop = word_fails word behind w };
  sentence = IsSentence.outside word w;
}

end_here : (rest gap behind : List ℕ) → rest ≡ gap ++ codes "E" ++ behind → AreCifBlanks gap → Sentence rest gap (codes "E") behind
end_here rest gap behind e b = record {
  split = record { is = e ∙ append_assoc gap (codes "E") behind; blanks = b; stop = refl };
  sentence = IsSentence.end (codes "E") refl;
}

-- blanks and more behind the end
end_more : (rest gap blanks : List ℕ) (byte : ℕ) (others : List ℕ) → rest ≡ gap ++ codes "E" ++ blanks ++ byte ∷ others
    → rest ≡ gap ++ codes "E" ++ (blanks ++ byte ∷ others)
end_more rest gap blanks byte others e = e ∙ append_assoc (gap ++ codes "E") blanks (byte ∷ others)

-- ---- sentences of different sorts

command_no_end : (bytes : List ℕ) → bytes ++ codes ";" ≡ codes "E" → ⊥
command_no_end [] e = omega (arith, heads e)
command_no_end (b ∷ []) e = let z : 59 ∷ [] ≡ [] = tails e in cc
command_no_end (b ∷ c ∷ bs) e = let z : c ∷ (bs ++ codes ";") ≡ [] = tails e in cc

command_no_word : (bytes word : List ℕ) → (word ≡ codes "R") ⊎ (word ≡ codes "DD") → bytes ++ codes ";" ≡ word → ⊥
command_no_word bytes word (inl w) e = one bytes (e ∙ w)
  where
    one : (bytes : List ℕ) → bytes ++ codes ";" ≡ codes "R" → ⊥
    one [] e = omega (arith, heads e)
    one (b ∷ []) e = let z : 59 ∷ [] ≡ [] = tails e in cc
    one (b ∷ c ∷ bs) e = let z : c ∷ (bs ++ codes ";") ≡ [] = tails e in cc
command_no_word bytes word (inr w) e = two bytes (e ∙ w)
  where
    two : (bytes : List ℕ) → bytes ++ codes ";" ≡ codes "DD" → ⊥
    two [] e = omega (arith, heads e)
    two (b ∷ []) e = omega (arith, heads (tails e))
    two (b ∷ c ∷ []) e = let z : 59 ∷ [] ≡ [] = tails (tails e) in cc
    two (b ∷ c ∷ d ∷ bs) e = let z : d ∷ (bs ++ codes ";") ≡ [] = tails (tails e) in cc

word_no_end : (word : List ℕ) → (word ≡ codes "R") ⊎ (word ≡ codes "DD") → word ≡ codes "E" → ⊥
word_no_end word (inl w) e = omega (arith, heads (sym w ∙ e))
word_no_end word (inr w) e = omega (arith, heads (sym w ∙ e))

-- ---- codes

from_number : ℕ → CifCode
from_number n =
    cond (n == 1) C1 (cond (n == 2) C2 (cond (n == 3) C3 (cond (n == 4) C4 (cond (n == 5) C5 (cond (n == 6) C6 (cond (n == 7) C7 (cond (n == 8) C8
    (cond (n == 9) C9 (cond (n == 10) C10 (cond (n == 11) C11 (cond (n == 12) C12 (cond (n == 13) C13 (cond (n == 14) C14 C15)))))))))))))

back : (c : CifCode) → from_number (code_number c) ≡ c
unfolding from_number
back C1 = refl
back C2 = refl
back C3 = refl
back C4 = refl
back C5 = refl
back C6 = refl
back C7 = refl
back C8 = refl
back C9 = refl
back C10 = refl
back C11 = refl
back C12 = refl
back C13 = refl
back C14 = refl
back C15 = refl

-- of the codes that a command meets one is the least
one_least : (s : CifState) (c : CifCommand) (a b : CifCode) → MeetsCode a s c → MeetsCode b s c
    → ((lower : CifCode) → code_number lower < code_number a → MeetsCode lower s c → ⊥)
    → ((lower : CifCode) → code_number lower < code_number b → MeetsCode lower s c → ⊥) → a ≡ b
one_least s c a b ma mb la lb = elim (cases_lt (code_number a) (code_number b)) [
  | inl less ↦ absurd (lb a less ma)
  | inr most ↦ (elim (cases_lt (code_number b) (code_number a)) [
    | inl more ↦ absurd (la b more mb)
    | inr least ↦ (let e : code_number a ≡ code_number b = omega (arith, most, least) in sym (back a) ∙ (ap from_number e ∙ back b))
  ])
]

-- ---- one command

module _ (apart : SentencesAreApart)
    (polygons : (layer : Layer) (points : List Point) (boxes others : List BoxShape) → ArePolygonBoxes layer points boxes
    → ArePolygonBoxes layer points others → boxes ≡ others) where
  record SameCommand (rest : List ℕ) (h k : CommandHere rest) : Type 0 where
    gaps : h.gap ≡ k.gap
    bytes : h.bytes ++ codes ";" ≡ k.bytes ++ codes ";"
    behind : h.behind ≡ k.behind
    commands : h.command ≡ k.command

  same_command : (rest : List ℕ) (h k : CommandHere rest) → SameCommand rest h k
  same_command rest h k =
      let a = agree apart rest h.gap k.gap (h.bytes ++ codes ";") (k.bytes ++ codes ";") h.behind k.behind (command_here rest h)
      (command_here rest k) in
      record {
        gaps = a.gaps;
        bytes = a.sentences;
        behind = a.behind;
        commands = one_command h.command k.command h.bytes k.bytes h.spelled
            k.spelled a.sentences;
      }

  record SameNext (front rest : List ℕ) (h k : CommandHere rest) (next other : CifState) : Type 0 where
    states : next ≡ other
    fronts : front_with front rest h ≡ front_with front rest k
    behind : h.behind ≡ k.behind

  same_next : (s next other : CifState) (front rest : List ℕ) (r : CommandRead s front rest next) (q : CommandRead s front rest other)
      → SameNext front rest r.here q.here next other
  same_next s next other front rest r q =
      let c = same_command rest r.here q.here in
      let P : List ℕ → Type 0 = λ l. CommandLeads s (place_behind (front ++ l)) q.here.command other in
      let Q : CifCommand → Type 0 = λ v. CommandLeads s (place_behind (front ++ r.here.gap)) v other in
      record {
        states =
            one_state polygons s (place_behind (front ++ r.here.gap)) r.here.command next other r.clear r.leads
            (subst Q (sym c.commands) (subst P (sym c.gaps) q.leads));
        fronts =
            append_assoc (front ++ r.here.gap) r.here.bytes (codes ";")
            ∙ (ap (λ (l : List ℕ). (front ++ l) ++ (r.here.bytes ++ codes ";")) c.gaps ∙ (ap (λ (l : List ℕ). (front ++ q.here.gap) ++ l) c.bytes
            ∙ sym (append_assoc (front ++ q.here.gap) q.here.bytes (codes ";"))));
        behind = c.behind;
      }

  -- ---- what does not stand together

  break_cut : (rest gap before behind other bytes : List ℕ) → rest ≡ gap ++ before ++ behind → gap ≡ take_while is_cif_blank rest
      → BreaksCommand before behind
      → rest ≡ other ++ bytes → other ≡ take_while is_cif_blank rest → CutsCommand bytes → ⊥
  break_cut rest gap before behind other bytes e g b f h c =
      let s = one_split rest gap (before ++ behind) other bytes (split_taken rest gap (before ++ behind) (e ∙ append_assoc gap before behind) g)
      (split_taken rest other bytes f h) in
      apart.not_both before behind bytes b c (sym s.1)

  break_sentence : (rest gap before behind other xs more : List ℕ) → rest ≡ gap ++ before ++ behind → gap ≡ take_while is_cif_blank rest
      → BreaksCommand before behind
      → Sentence rest other xs more → ⊥
  break_sentence rest gap before behind other xs more e g b a =
      let s = one_split rest other (xs ++ more) gap (before ++ behind) a.split (split_taken rest gap (before ++ behind) (e
      ∙ append_assoc gap before behind) g) in
      apart.no_break xs more before behind a.sentence b s.1

  cut_sentence : (rest gap bytes other xs more : List ℕ) → rest ≡ gap ++ bytes → gap ≡ take_while is_cif_blank rest → CutsCommand bytes
      → Sentence rest other xs more → ⊥
  cut_sentence rest gap bytes other xs more e g c a =
      let s = one_split rest gap bytes other (xs ++ more) (split_taken rest gap bytes e g) a.split in
      apart.no_cut xs more bytes a.sentence c s.1

  command_end : (rest gap behind : List ℕ) (h : CommandHere rest) → rest ≡ gap ++ codes "E" ++ behind → AreCifBlanks gap → ⊥
  command_end rest gap behind h e b =
      command_no_end h.bytes (agree apart rest h.gap gap (h.bytes ++ codes ";") (codes "E") h.behind behind (command_here rest h)
      (end_here rest gap behind e b)).sentences

  command_word : (rest gap word behind : List ℕ) (h : CommandHere rest) → rest ≡ gap ++ word ++ behind → AreCifBlanks gap
      → (word ≡ codes "R") ⊎ (word ≡ codes "DD") → ⊥
  command_word rest gap word behind h e b w =
      command_no_word h.bytes word w
      (agree apart rest h.gap gap (h.bytes ++ codes ";") word h.behind behind (command_here rest h)
      (word_here rest gap word behind e b w)).sentences

  word_end : (rest gap word behind other more : List ℕ) → rest ≡ gap ++ word ++ behind → AreCifBlanks gap → (word ≡ codes "R") ⊎ (word ≡ codes "DD")
      → rest ≡ other ++ codes "E" ++ more → AreCifBlanks other → ⊥
  word_end rest gap word behind other more e b w f c =
      word_no_end word w (agree apart rest gap other word (codes "E") behind more (word_here rest gap word behind e b w)
      (end_here rest other more f c)).sentences

  both_ways : (o : Option CifOpening) → IsSome o → IsNone o → ⊥
  both_ways o some none = let z : true ≡ false = sym some ∙ none in cc

  -- ---- two codes

  prefixed : (front a b c d : List ℕ) → a ≡ b → c ≡ d → front ++ a ++ c ≡ front ++ b ++ d
  prefixed front a b c d e f = ap (λ (l : List ℕ). front ++ l ++ c) e ∙ ap (λ (l : List ℕ). front ++ b ++ l) f

  same_fault : (s : CifState) (front rest : List ℕ) (code other : CifCode) (at to : List ℕ) → CommandFault s front rest code at
      → CommandFault s front rest other to
      → (code ≡ other) × (at ≡ to)
  same_fault s front rest _ _ _ _ (breaks gap before behind e g b) (breaks gap' before' behind' e' g' b') =
      let x = one_split rest gap (before ++ behind) gap' (before' ++ behind') (split_taken rest gap (before ++ behind) (e
      ∙ append_assoc gap before behind) g)
      (split_taken rest gap' (before' ++ behind') (e' ∙ append_assoc gap' before' behind') g') in
      (refl, prefixed front gap gap' before before' x.0 (apart.one_break before behind before' behind' b b' x.1))
  same_fault s front rest _ _ _ _ (breaks gap before behind e g b) (cuts gap' bytes e' g' c) = absurd
      (break_cut rest gap before behind gap' bytes e g b e' g' c)
  same_fault s front rest _ _ _ _ (breaks gap before behind e g b) (outside gap' word more e' b' w) =
      absurd (break_sentence rest gap before behind gap' word more e g b (word_here rest gap' word more e' b' w))
  same_fault s front rest _ _ _ _ (breaks gap before behind e g b) (meets h code m l) =
      absurd (break_sentence rest gap before behind h.gap (h.bytes ++ codes ";") h.behind e g b (command_here rest h))
  same_fault s front rest _ _ _ _ (breaks gap before behind e g b) (end_within gap' more e' b' o) =
      absurd (break_sentence rest gap before behind gap' (codes "E") more e g b (end_here rest gap' more e' b'))
  same_fault s front rest _ _ _ _ (breaks gap before behind e g b) (behind_end gap' blanks byte others e' b' o k n) =
      absurd (break_sentence rest gap before behind gap' (codes "E") (blanks ++ byte ∷ others) e g b
      (end_here rest gap' (blanks ++ byte ∷ others) (end_more rest gap' blanks byte others e') b'))
  same_fault s front rest _ _ _ _ (cuts gap bytes e g c) (breaks gap' before behind e' g' b) = absurd
      (break_cut rest gap' before behind gap bytes e' g' b e g c)
  same_fault s front rest _ _ _ _ (cuts gap bytes e g c) (cuts gap' bytes' e' g' c') = (refl, refl)
  same_fault s front rest _ _ _ _ (cuts gap bytes e g c) (outside gap' word more e' b' w) =
      absurd (cut_sentence rest gap bytes gap' word more e g c (word_here rest gap' word more e' b' w))
  same_fault s front rest _ _ _ _ (cuts gap bytes e g c) (meets h code m l) =
      absurd (cut_sentence rest gap bytes h.gap (h.bytes ++ codes ";") h.behind e g c (command_here rest h))
  same_fault s front rest _ _ _ _ (cuts gap bytes e g c) (end_within gap' more e' b' o) =
      absurd (cut_sentence rest gap bytes gap' (codes "E") more e g c (end_here rest gap' more e' b'))
  same_fault s front rest _ _ _ _ (cuts gap bytes e g c) (behind_end gap' blanks byte others e' b' o k n) =
      absurd (cut_sentence rest gap bytes gap' (codes "E") (blanks ++ byte ∷ others) e g c
      (end_here rest gap' (blanks ++ byte ∷ others) (end_more rest gap' blanks byte others e') b'))
  same_fault s front rest _ _ _ _ (outside gap word more e b w) (breaks gap' before behind e' g' b') =
      absurd (break_sentence rest gap' before behind gap word more e' g' b' (word_here rest gap word more e b w))
  same_fault s front rest _ _ _ _ (outside gap word more e b w) (cuts gap' bytes e' g' c) =
      absurd (cut_sentence rest gap' bytes gap word more e' g' c (word_here rest gap word more e b w))
  same_fault s front rest _ _ _ _ (outside gap word more e b w) (outside gap' word' more' e' b' w') = (
    refl,
    ap (λ (l : List ℕ). front ++ l) (agree apart rest gap gap' word word' more more' (word_here rest gap word more e b w)
        (word_here rest gap' word' more' e' b' w')).gaps,
  )
  same_fault s front rest _ _ _ _ (outside gap word more e b w) (meets h code m l) = absurd (command_word rest gap word more h e b w)
  same_fault s front rest _ _ _ _ (outside gap word more e b w) (end_within gap' more' e' b' o) = absurd
      (word_end rest gap word more gap' more' e b w e' b')
  same_fault s front rest _ _ _ _ (outside gap word more e b w) (behind_end gap' blanks byte others e' b' o k n) =
      absurd (word_end rest gap word more gap' (blanks ++ byte ∷ others) e b w (end_more rest gap' blanks byte others e') b')
  same_fault s front rest _ _ _ _ (meets h code m l) (breaks gap before behind e g b) =
      absurd (break_sentence rest gap before behind h.gap (h.bytes ++ codes ";") h.behind e g b (command_here rest h))
  same_fault s front rest _ _ _ _ (meets h code m l) (cuts gap bytes e g c) =
      absurd (cut_sentence rest gap bytes h.gap (h.bytes ++ codes ";") h.behind e g c (command_here rest h))
  same_fault s front rest _ _ _ _ (meets h code m l) (outside gap word more e b w) = absurd (command_word rest gap word more h e b w)
  same_fault s front rest _ _ _ _ (meets h code m l) (meets k other n j) =
      let c = same_command rest h k in
      let P : CifCommand → Type 0 = λ v. MeetsCode other s v in
      let Q : CifCommand → Type 0 = λ v. (lower : CifCode) → code_number lower < code_number other → MeetsCode lower s v → ⊥ in
      (one_least s h.command code other m (subst P (sym c.commands) n) l (subst Q (sym c.commands) j), ap (λ (x : List ℕ). front ++ x) c.gaps)
  same_fault s front rest _ _ _ _ (meets h code m l) (end_within gap more e b o) = absurd (command_end rest gap more h e b)
  same_fault s front rest _ _ _ _ (meets h code m l) (behind_end gap blanks byte others e b o k n) =
      absurd (command_end rest gap (blanks ++ byte ∷ others) h (end_more rest gap blanks byte others e) b)
  same_fault s front rest _ _ _ _ (end_within gap more e b o) (breaks gap' before behind e' g' b') =
      absurd (break_sentence rest gap' before behind gap (codes "E") more e' g' b' (end_here rest gap more e b))
  same_fault s front rest _ _ _ _ (end_within gap more e b o) (cuts gap' bytes e' g' c) =
      absurd (cut_sentence rest gap' bytes gap (codes "E") more e' g' c (end_here rest gap more e b))
  same_fault s front rest _ _ _ _ (end_within gap more e b o) (outside gap' word more' e' b' w) = absurd
      (word_end rest gap' word more' gap more e' b' w e b)
  same_fault s front rest _ _ _ _ (end_within gap more e b o) (meets h code m l) = absurd (command_end rest gap more h e b)
  same_fault s front rest _ _ _ _ (end_within gap more e b o) (end_within gap' more' e' b' o') = (
    refl,
    ap (λ (l : List ℕ). front ++ l) (agree apart rest gap gap' (codes "E") (codes "E") more more' (end_here rest gap more e b)
        (end_here rest gap' more' e' b')).gaps,
  )
  same_fault s front rest _ _ _ _ (end_within gap more e b o) (behind_end gap' blanks byte others e' b' o' k n) = absurd (both_ways s.opening o o')
  same_fault s front rest _ _ _ _ (behind_end gap blanks byte others e b o k n) (breaks gap' before behind e' g' b') =
      absurd (break_sentence rest gap' before behind gap (codes "E") (blanks ++ byte ∷ others) e' g' b'
      (end_here rest gap (blanks ++ byte ∷ others) (end_more rest gap blanks byte others e) b))
  same_fault s front rest _ _ _ _ (behind_end gap blanks byte others e b o k n) (cuts gap' bytes e' g' c) =
      absurd (cut_sentence rest gap' bytes gap (codes "E") (blanks ++ byte ∷ others) e' g' c
      (end_here rest gap (blanks ++ byte ∷ others) (end_more rest gap blanks byte others e) b))
  same_fault s front rest _ _ _ _ (behind_end gap blanks byte others e b o k n) (outside gap' word more e' b' w) =
      absurd (word_end rest gap' word more gap (blanks ++ byte ∷ others) e' b' w (end_more rest gap blanks byte others e) b)
  same_fault s front rest _ _ _ _ (behind_end gap blanks byte others e b o k n) (meets h code m l) =
      absurd (command_end rest gap (blanks ++ byte ∷ others) h (end_more rest gap blanks byte others e) b)
  same_fault s front rest _ _ _ _ (behind_end gap blanks byte others e b o k n) (end_within gap' more e' b' o') = absurd (both_ways s.opening o' o)
  same_fault s front rest _ _ _ _ (behind_end gap blanks byte others e b o k n) (behind_end gap' blanks' byte' others' e' b' o' k' n') =
      let a = agree apart rest gap gap' (codes "E") (codes "E") (blanks ++ byte ∷ others) (blanks' ++ byte' ∷ others')
      (end_here rest gap (blanks ++ byte ∷ others) (end_more rest gap blanks byte others e) b)
      (end_here rest gap' (blanks' ++ byte' ∷ others') (end_more rest gap' blanks' byte' others' e') b') in
      let r = one_run is_cif_blank blanks blanks' (byte ∷ others) (byte' ∷ others') k k' n n' a.behind in
      (refl, ap (λ (l : List ℕ). front ++ l ++ codes "E" ++ blanks) a.gaps ∙ ap (λ (l : List ℕ). front ++ gap' ++ codes "E" ++ l) r.0)

  -- ---- a command and a code

  read_no_fault : (s next : CifState) (front rest : List ℕ) (code : CifCode) (at : List ℕ) → CommandRead s front rest next
      → CommandFault s front rest code at → ⊥
  read_no_fault s next front rest _ _ r (breaks gap before behind e g b) =
      break_sentence rest gap before behind r.here.gap (r.here.bytes ++ codes ";") r.here.behind e g b (command_here rest r.here)
  read_no_fault s next front rest _ _ r (cuts gap bytes e g c) =
      cut_sentence rest gap bytes r.here.gap (r.here.bytes ++ codes ";") r.here.behind e g c (command_here rest r.here)
  read_no_fault s next front rest _ _ r (outside gap word more e b w) = command_word rest gap word more r.here e b w
  read_no_fault s next front rest _ _ r (meets h code m l) =
      let P : CifCommand → Type 0 = λ v. MeetsCode code s v in r.clear code (subst P (same_command rest h r.here).commands m)
  read_no_fault s next front rest _ _ r (end_within gap more e b o) = command_end rest gap more r.here e b
  read_no_fault s next front rest _ _ r (behind_end gap blanks byte others e b o k n) =
      command_end rest gap (blanks ++ byte ∷ others) r.here (end_more rest gap blanks byte others e) b

  blanks_hold : (blanks : List ℕ) (byte : ℕ) (others : List ℕ) → AreCifBlanks (blanks ++ byte ∷ others) → is_cif_blank byte ≡ false → ⊥
  blanks_hold [] byte others h n = let z : true ≡ false = sym (all_first is_cif_blank byte others h).0 ∙ n in cc
  blanks_hold (b ∷ bs) byte others h n = blanks_hold bs byte others (all_first is_cif_blank b (bs ++ byte ∷ others) h).1 n

  end_no_fault : (s : CifState) (front rest gap blanks : List ℕ) (code : CifCode) (at : List ℕ) → rest ≡ gap ++ codes "E" ++ blanks
      → AreCifBlanks gap → AreCifBlanks blanks
      → IsNone s.opening → CommandFault s front rest code at → ⊥
  end_no_fault s front rest gap blanks _ _ e b k o (breaks gap' before behind e' g b') =
      break_sentence rest gap' before behind gap (codes "E") blanks e' g b' (end_here rest gap blanks e b)
  end_no_fault s front rest gap blanks _ _ e b k o (cuts gap' bytes e' g c) = cut_sentence rest gap' bytes gap (codes "E") blanks e' g c
      (end_here rest gap blanks e b)
  end_no_fault s front rest gap blanks _ _ e b k o (outside gap' word more e' b' w) = word_end rest gap' word more gap blanks e' b' w e b
  end_no_fault s front rest gap blanks _ _ e b k o (meets h code m l) = command_end rest gap blanks h e b
  end_no_fault s front rest gap blanks _ _ e b k o (end_within gap' more e' b' some) = both_ways s.opening some o
  end_no_fault s front rest gap blanks _ _ e b k o (behind_end gap' blanks' byte others e' b' o' k' n) =
      let a = agree apart rest gap gap' (codes "E") (codes "E") blanks (blanks' ++ byte ∷ others) (end_here rest gap blanks e b)
      (end_here rest gap' (blanks' ++ byte ∷ others) (end_more rest gap' blanks' byte others e') b') in
      let P : List ℕ → Type 0 = λ l. AreCifBlanks l in
      blanks_hold blanks' byte others (subst P a.behind k) n

  -- ---- texts

  moved_on : (next other : CifState) (front front' rest rest' : List ℕ) (last : CifState) → next ≡ other → front ≡ front' → rest ≡ rest'
      → DrawsFrom other front' rest' last
      → DrawsFrom next front rest last
  moved_on next other front front' rest rest' last s f r d =
      subst (λ (v : CifState). DrawsFrom v front rest last) (sym s)
      (subst (λ (l : List ℕ). DrawsFrom other l rest last) (sym f) (subst (λ (l : List ℕ). DrawsFrom other front' l last) (sym r) d))

  moved_to : (next other : CifState) (front front' rest rest' : List ℕ) (code : CifCode) (place : Place) → next ≡ other → front ≡ front'
      → rest ≡ rest'
      → RefusedFrom other front' rest' code place → RefusedFrom next front rest code place
  moved_to next other front front' rest rest' code place s f r d =
      subst (λ (v : CifState). RefusedFrom v front rest code place) (sym s)
      (subst (λ (l : List ℕ). RefusedFrom other l rest code place) (sym f) (subst (λ (l : List ℕ). RefusedFrom other front' l code place)
      (sym r) d))

  one_last : (s : CifState) (front rest : List ℕ) (last other : CifState) → DrawsFrom s front rest last → DrawsFrom s front rest other
      → last ≡ other
  one_last _ _ _ _ _ (ends s front rest gap blanks e g b n) (ends _ _ _ gap' blanks' e' g' b' n') = refl
  one_last _ _ _ _ _ (ends s front rest gap blanks e g b n) (goes _ next last _ _ read d) = absurd (command_end rest gap blanks read.here e g)
  one_last _ _ _ _ _ (goes s next last front rest read d) (ends _ _ _ gap blanks e g b n) = absurd (command_end rest gap blanks read.here e g)
  one_last _ _ _ _ _ (goes s next last front rest read d) (goes _ next' last' _ _ read' d') =
      let o = same_next s next next' front rest read read' in
      one_last next (front_with front rest read.here) read.here.behind last last' d
      (moved_on next next' (front_with front rest read.here) (front_with front rest read'.here) read.here.behind read'.here.behind last' o.states
      o.fronts o.behind d')

  not_both : (s : CifState) (front rest : List ℕ) (last : CifState) (code : CifCode) (place : Place) → DrawsFrom s front rest last
      → RefusedFrom s front rest code place → ⊥
  not_both _ _ _ _ _ _ (ends s front rest gap blanks e g b n) (here _ _ _ at code f) = end_no_fault s front rest gap blanks code at e g b n f
  not_both _ _ _ _ _ _ (ends s front rest gap blanks e g b n) (later _ next _ _ code place read r) = command_end rest gap blanks read.here e g
  not_both _ _ _ _ _ _ (goes s next last front rest read d) (here _ _ _ at code f) = read_no_fault s next front rest code at read f
  not_both _ _ _ _ _ _ (goes s next last front rest read d) (later _ next' _ _ code place read' r) =
      let o = same_next s next next' front rest read read' in
      not_both next (front_with front rest read.here) read.here.behind last code place d
      (moved_to next next' (front_with front rest read.here) (front_with front rest read'.here) read.here.behind read'.here.behind code place
      o.states o.fronts o.behind r)

  one_code : (s : CifState) (front rest : List ℕ) (code other : CifCode) (place there : Place) → RefusedFrom s front rest code place
      → RefusedFrom s front rest other there
      → (code ≡ other) × (place ≡ there)
  one_code _ _ _ _ _ _ _ (here s front rest at code f) (here _ _ _ to other g) =
      let r = same_fault s front rest code other at to f g in (r.0, ap place_behind r.1)
  one_code _ _ _ _ _ _ _ (here s front rest at code f) (later _ next _ _ other there read r) = absurd
      (read_no_fault s next front rest code at read f)
  one_code _ _ _ _ _ _ _ (later s next front rest code place read r) (here _ _ _ to other g) = absurd
      (read_no_fault s next front rest other to read g)
  one_code _ _ _ _ _ _ _ (later s next front rest code place read r) (later _ next' _ _ other there read' q) =
      let o = same_next s next next' front rest read read' in
      one_code next (front_with front rest read.here) read.here.behind code other place there r
      (moved_to next next' (front_with front rest read.here) (front_with front rest read'.here) read.here.behind read'.here.behind other there
      o.states o.fronts o.behind q)

  pub texts_read_once : TextsHaveOneReading
  texts_read_once = record {
    one_drawing = λ text drawing other a b. a.drawing_is ∙ (ap (λ (s : CifState). s.drawing)
        (one_last blank_state [] text a.last b.last a.draws b.draws) ∙ sym b.drawing_is);
    one_refusal = λ text code other place there a b. one_code blank_state [] text code other place there a b;
    never_both = λ text drawing code place a b. not_both blank_state [] text a.last code place a.draws b;
  }
