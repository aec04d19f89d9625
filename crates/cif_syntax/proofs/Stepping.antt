-- What was read, byte by byte.
use Rattle.std.proofs.Common.{◌≡◌, ◌≢◌, inl, inr, ℕ, zero, suc, ◌≤◌, ◌==◌, Bool, true, false, not, cond, ◌&&◌, ◌||◌, List, [], ◌∷◌, ◌++◌, length, Some, None, codes, refl, sym, ◌∙◌, ap, subst, append_assoc, arith}
use Rattle.std.specs.List.{list_all}
use Rattle.std.proofs.lemmas.List.{append-nil, length-append}
use Rattle.rx_text.specs.NumberInText.{is_digit}
use Rattle.geom.specs.CifCommands.{CifCommand, Empty, Closes, SetsLayer, Extension, CifPart, Letters, SpellsParts, AreCifBlanks, IsNested, IsExtension, SpellsCommand, is_capital, is_cif_blank}
use Rattle.geom.specs.CifRefusals.{IsSentence}
use Rattle.cif_syntax.specs.declared.kind.Kind.{Kind}
use Rattle.cif_syntax.specs.declared.kind.Kind.TheVariants.{Blank, Zero, Digit, Open, Semicolon, B, C, D, E, F, L, P, R, S, W}
use Rattle.cif_syntax.specs.declared.slot.Slot.{Slot}
use Rattle.cif_syntax.specs.declared.slot.Slot.TheVariants.{Symbol, Called, Length, Wire, PointX}
use Rattle.cif_syntax.specs.declared.due.Due.{Due}
use Rattle.cif_syntax.specs.declared.due.Due.TheVariants.{First, Definition, Comment, Closed, Text, Layer, OneByte, TwoBytes, ThreeBytes, FourBytes, Number, Sign, Digits, Gap, Moves, Mirror, Whole}
use Rattle.cif_syntax.specs.Kinds.{kind_of, is_name_kind}
use Rattle.cif_syntax.specs.Slots.{is_signed, is_scale}
use Rattle.cif_syntax.specs.Machine.{first, definition, comment, closing, closed, text, layer, named, gap}
use Rattle.cif_syntax.proofs.Bytes.{IsOfKind, of_kind, name_byte, at, unlike}
use Rattle.cif_syntax.proofs.Alongs.{all_first, are_zeros}
use Rattle.cif_syntax.proofs.Accepting.{FitsSlot, quiet, not_open, not_close, spoken, not_semicolon}
use Rattle.cif_syntax.proofs.Comments.{Unclosed, unclosed_other, unclosed_open, unclosed_close}
use Rattle.cif_syntax.proofs.Reading.{Ended, Opened, spells_at, letters_then, opened, first_letters, blanks_push, Begun, IsCall}

-- the digits of a number so far, perhaps behind a sign
pub record InDigits (slot : Slot) (all : Bool) (bytes : List ℕ) : Type 0 where
  pub ps : List CifPart
  pub begun : Begun slot ps
  pub front : List ℕ
  pub open_yet : Opened ps front
  pub minus : Bool
  pub may : minus ≡ true → is_signed slot ≡ true
  pub digits : List ℕ
  pub some : digits ≢ []
  pub are : list_all is_digit digits ≡ true
  pub zeros : are_zeros digits ≡ all
  pub is : bytes ≡ front ++ cond minus (45 ∷ digits) digits

-- a number and blanks
pub record InGap (slot : Slot) (bytes : List ℕ) : Type 0 where
  pub ps : List CifPart
  pub part : CifPart
  pub begun : Begun slot ps
  pub fits : FitsSlot slot part
  pub ended : Ended (ps ++ part ∷ []) bytes
  pub before : List ℕ
  pub blank : ℕ
  pub apart : bytes ≡ before ++ blank ∷ []
  pub is_blank : is_cif_blank blank ≡ true

-- bytes of a name behind `L` and blanks
pub record InName (count : ℕ) (bytes : List ℕ) : Type 0 where
  pub gap : List ℕ
  pub name : List ℕ
  pub blanks : AreCifBlanks gap
  pub few : length name ≡ count
  pub bytes_are : list_all (λ b. is_capital b || is_digit b) name ≡ true
  pub is : bytes ≡ 76 ∷ (gap ++ name)

-- a command, with whatever blanks behind it
pub record IsClosed (bytes : List ℕ) : Type 0 where
  pub command : CifCommand
  pub spelled : (gap : List ℕ) → AreCifBlanks gap → SpellsCommand command (bytes ++ gap)

abbrev pub HasRead : Due → List ℕ → Type 0
HasRead First bytes = bytes ≡ []
HasRead Definition bytes = bytes ≡ codes "D"
HasRead (Comment zero) bytes = ⊥
HasRead (Comment (suc n)) bytes = (inner : List ℕ) × (bytes ≡ 40 ∷ inner) × Unclosed n inner
HasRead Closed bytes = IsClosed bytes
HasRead Text bytes = IsExtension bytes
HasRead Layer bytes = InName 0 bytes
HasRead OneByte bytes = InName 1 bytes
HasRead TwoBytes bytes = InName 2 bytes
HasRead ThreeBytes bytes = InName 3 bytes
HasRead FourBytes bytes = InName 4 bytes
HasRead (Number slot) bytes = (ps : List CifPart) × Begun slot ps × Opened ps bytes × (is_scale slot ≡ false)
HasRead (Sign slot) bytes =
    (ps : List CifPart) × (front : List ℕ) × Begun slot ps × Opened ps front × (is_signed slot ≡ true) × (bytes ≡ front ++ 45 ∷ [])
HasRead (Digits slot all) bytes = InDigits slot all bytes
HasRead (Gap slot) bytes = InGap slot bytes
HasRead Moves bytes = (ps : List CifPart) × IsCall ps × Ended ps bytes
HasRead Mirror bytes = (ps : List CifPart) × IsCall ps × Ended (ps ++ Letters (codes "M") ∷ []) bytes
HasRead Whole bytes = IsSentence bytes

pub some_same : {U : Type 0} {u v : U} → Some u ≡ Some v → u ≡ v
some_same h = cc

-- what was read, where the state is another's
pub to : (due next : Due) (bytes : List ℕ) → Some due ≡ Some next → HasRead due bytes → HasRead next bytes
to due next bytes e h = let P : Due → Type 0 = λ d. HasRead d bytes in subst P (some_same e) h

-- a last byte, by its number
pub by_byte : (due : Due) (bytes : List ℕ) (b n : ℕ) → b ≡ n → HasRead due (bytes ++ n ∷ []) → HasRead due (bytes ++ b ∷ [])
by_byte due bytes b n e h = let P : ℕ → Type 0 = λ v. HasRead due (bytes ++ v ∷ []) in subst P (sym e) h

-- ---- the first byte

pub none_same : {U : Type 0} {v : U} → None ≡ Some v → ⊥
none_same h = cc

abbrev sole : CifPart → List CifPart
sole p = p ∷ []

begun_letters : (w : List ℕ) → Opened (Letters w ∷ []) w
begun_letters w = opened (Letters w ∷ []) w (first_letters w)

pub first_step : (kind : Kind) (b : ℕ) (next : Due) → IsOfKind kind b → first kind ≡ Some next → HasRead next (b ∷ [])
first_step Semicolon b next k e =
    to Whole next (b ∷ []) e (by_byte Whole [] b 59 k.0 (IsSentence.command (codes ";") [] Empty refl (tt, refl)))
first_step E b next k e = to Whole next (b ∷ []) e (by_byte Whole [] b 69 k.0 (IsSentence.end (codes "E") refl))
first_step R b next k e = to Whole next (b ∷ []) e (by_byte Whole [] b 82 k.0 (IsSentence.outside (codes "R") (inl refl)))
first_step Open b next k e = to (Comment 1) next (b ∷ []) e (by_byte (Comment 1) [] b 40 k.0 ([], refl, IsNested.none [] refl))
first_step Zero b next k e = to Text next (b ∷ []) e (k.0, refl)
first_step Digit b next k e = to Text next (b ∷ []) e (k.0, refl)
first_step D b next k e = to Definition next (b ∷ []) e (by_byte Definition [] b 68 k.0 refl)
first_step C b next k e =
    to (Number Called) next (b ∷ []) e (by_byte (Number Called) [] b 67 k.0 (sole (Letters (codes "C")), refl, begun_letters (codes "C"), refl))
first_step L b next k e =
    to Layer next (b ∷ []) e (by_byte Layer [] b 76 k.0 (record { gap = []; name = []; blanks = refl; few = refl; bytes_are = refl; is = refl }))
first_step B b next k e =
    to (Number Length) next (b ∷ []) e (by_byte (Number Length) [] b 66 k.0 (sole (Letters (codes "B")), refl, begun_letters (codes "B"), refl))
first_step P b next k e =
    to (Number PointX) next (b ∷ []) e
    (by_byte (Number PointX) [] b 80 k.0 (sole (Letters (codes "P")), ([], inl refl), begun_letters (codes "P"), refl))
first_step W b next k e =
    to (Number Wire) next (b ∷ []) e (by_byte (Number Wire) [] b 87 k.0 (sole (Letters (codes "W")), refl, begun_letters (codes "W"), refl))
first_step kind b next k e = absurd (none_same e)

pub definition_step : (kind : Kind) (b : ℕ) (next : Due) → IsOfKind kind b → definition kind ≡ Some next → HasRead next (68 ∷ b ∷ [])
definition_step D b next k e = to Whole next (68 ∷ b ∷ []) e (by_byte Whole (codes "D") b 68 k.0 (IsSentence.outside (codes "DD") (inr refl)))
definition_step F b next k e =
    to Closed next (68 ∷ b ∷ []) e
    (by_byte Closed (codes "D") b 70 k.0 (record {
      command = Closes;
      spelled = λ gap g. (
        tt,
        (let s = first_letters (codes "DF") gap [] [] g refl in
            let P : List ℕ → Type 0 = λ l. SpellsParts (Letters (codes "DF") ∷ []) (codes "DF" ++ l) in subst P (append-nil gap) s),
      );
    }))
definition_step S b next k e =
    to (Number Symbol) next (68 ∷ b ∷ []) e
    (by_byte (Number Symbol) (codes "D") b 83 k.0 (sole (Letters (codes "DS")), refl, begun_letters (codes "DS"), refl))
definition_step kind b next k e = absurd (none_same e)

-- ---- comments, extensions, and what is closed

closing_read : (n : ℕ) (inner : List ℕ) → Unclosed n inner → HasRead (closing (suc n)) (40 ∷ (inner ++ 41 ∷ []))
closing_read zero inner h = record {
  command = CifCommand.Comment;
  spelled = λ gap g. record { text = inner; gap = gap; is = ap (λ (l : List ℕ). 40 ∷ l) (append_assoc inner (41 ∷ []) gap); nested = h; blanks = g };
}
closing_read (suc n) inner h = (inner ++ 41 ∷ [], refl, unclosed_close n inner h)

pub comment_step : (n b : ℕ) (inner : List ℕ) → Unclosed n inner → HasRead (comment (suc n) (kind_of b)) (40 ∷ (inner ++ b ∷ []))
comment_step n b inner h = by (b == 40) refl (b == 41) refl
  where
    by : (t : Bool) → (b == 40) ≡ t → (u : Bool) → (b == 41) ≡ u → HasRead (comment (suc n) (kind_of b)) (40 ∷ (inner ++ b ∷ []))
    by true e u f =
        let P : ℕ → Type 0 = λ v. HasRead (comment (suc n) (kind_of v)) (40 ∷ (inner ++ v ∷ [])) in
        subst P (sym (at b 40 e)) (inner ++ 40 ∷ [], refl, unclosed_open n inner h)
    by false e true f =
        let P : ℕ → Type 0 = λ v. HasRead (comment (suc n) (kind_of v)) (40 ∷ (inner ++ v ∷ [])) in
        subst P (sym (at b 41 f)) (closing_read n inner h)
    by false e false f =
        let P : Due → Type 0 = λ d. HasRead d (40 ∷ (inner ++ b ∷ [])) in
        let o : b ≢ 40 = unlike b 40 e in
        let c : b ≢ 41 = unlike b 41 f in
        subst P (sym (quiet (suc n) (kind_of b) (not_open b o) (not_close b c))) (inner ++ b ∷ [], refl, unclosed_other n inner b o c h)

text_push : (bytes : List ℕ) (b : ℕ) → (b == 59) ≡ false → IsExtension bytes → IsExtension (bytes ++ b ∷ [])
text_push [] b e h = absurd h
text_push (a ∷ more) b e h = (h.0, all_push (λ n. not (n == 59)) more b h.1 (ap not e))
  where
    all_push : (p : ℕ → Bool) (xs : List ℕ) (x : ℕ) → list_all p xs ≡ true → p x ≡ true → list_all p (xs ++ x ∷ []) ≡ true
    all_push p [] x h e = ap (λ (v : Bool). v && true) e
    all_push p (y ∷ ys) x h e =
        let f = all_first p y ys h in ap (λ (v : Bool). v && list_all p (ys ++ x ∷ [])) f.0 ∙ all_push p ys x f.1 e

pub text_step : (b : ℕ) (bytes : List ℕ) → IsExtension bytes → HasRead (text (kind_of b)) (bytes ++ b ∷ [])
text_step b bytes h = by (b == 59) refl
  where
    by : (t : Bool) → (b == 59) ≡ t → HasRead (text (kind_of b)) (bytes ++ b ∷ [])
    by true e =
        let P : ℕ → Type 0 = λ v. HasRead (text (kind_of v)) (bytes ++ v ∷ []) in
        subst P (sym (at b 59 e)) (IsSentence.command (bytes ++ 59 ∷ []) bytes (Extension bytes) refl (refl, h))
    by false e =
        let P : Due → Type 0 = λ d. HasRead d (bytes ++ b ∷ []) in
        subst P (sym (spoken (kind_of b) (not_semicolon b e))) (text_push bytes b e h)

pub closed_step : (kind : Kind) (b : ℕ) (bytes : List ℕ) (next : Due) → IsOfKind kind b → IsClosed bytes → closed kind ≡ Some next → HasRead next (bytes ++ b ∷ [])
closed_step Blank b bytes next k h e =
    to Closed next (bytes ++ b ∷ []) e (record {
      command = h.command;
      spelled = λ gap g. spells_command h.command (bytes ++ b ∷ gap) ((bytes ++ b ∷ []) ++ gap) (sym (append_assoc bytes (b ∷ []) gap))
          (h.spelled (b ∷ gap) (ap (λ (v : Bool). v && list_all is_cif_blank gap) k ∙ g));
    })
  where
    spells_command : (c : CifCommand) (xs ys : List ℕ) → xs ≡ ys → SpellsCommand c xs → SpellsCommand c ys
    spells_command c xs ys e s = let P : List ℕ → Type 0 = λ l. SpellsCommand c l in subst P e s
closed_step Semicolon b bytes next k h e =
    let P : List ℕ → Type 0 = λ l. SpellsCommand h.command l in
    to Whole next (bytes ++ b ∷ []) e
    (by_byte Whole bytes b 59 k.0 (IsSentence.command (bytes ++ 59 ∷ []) bytes h.command refl (subst P (append-nil bytes) (h.spelled [] refl))))
closed_step kind b bytes next k h e = absurd (none_same e)

-- ---- names

name_more : (count b : ℕ) (bytes : List ℕ) → is_name_kind (kind_of b) ≡ true → InName count bytes → InName (suc count) (bytes ++ b ∷ [])
name_more count b bytes k h = record {
  gap = h.gap;
  name = h.name ++ b ∷ [];
  blanks = h.blanks;
  few = omega (arith, length-append h.name (b ∷ []), h.few);
  bytes_are = all_push (λ n. is_capital n || is_digit n) h.name b h.bytes_are (name_byte b k);
  is = ap (λ (l : List ℕ). l ++ b ∷ []) h.is ∙ ap (λ (l : List ℕ). 76 ∷ l) (append_assoc h.gap h.name (b ∷ []));
}
  where
    all_push : (p : ℕ → Bool) (xs : List ℕ) (x : ℕ) → list_all p xs ≡ true → p x ≡ true → list_all p (xs ++ x ∷ []) ≡ true
    all_push p [] x h e = ap (λ (v : Bool). v && true) e
    all_push p (y ∷ ys) x h e =
        let f = all_first p y ys h in ap (λ (v : Bool). v && list_all p (ys ++ x ∷ [])) f.0 ∙ all_push p ys x f.1 e

pub name_closed : (count : ℕ) (bytes : List ℕ) → 1 ≤ count → count ≤ 4 → InName count bytes → IsClosed bytes
name_closed count bytes some few h = record {
  command = SetsLayer h.name;
  spelled = λ gap g. (
    record { some = λ e. (let z : length h.name ≡ 0 = ap length e in omega (arith, h.few, z)); few = omega (arith, h.few); bytes = h.bytes_are },
    spells_at (Letters (codes "L") ∷ Letters h.name ∷ []) (codes "L" ++ (h.gap ++ (h.name ++ (gap ++ [])))) (bytes ++ gap) (bytes_same gap)
        (letters_then (codes "L") h.gap (Letters h.name ∷ []) (h.name ++ (gap ++ [])) h.blanks (letters_then h.name gap [] [] g refl)),
  );
}
  where
    bytes_same : (gap : List ℕ) → codes "L" ++ (h.gap ++ (h.name ++ (gap ++ []))) ≡ bytes ++ gap
    bytes_same gap =
        ap (λ (l : List ℕ). 76 ∷ (h.gap ++ (h.name ++ l))) (append-nil gap)
        ∙ (ap (λ (l : List ℕ). 76 ∷ l) (sym (append_assoc h.gap h.name gap)) ∙ ap (λ (l : List ℕ). l ++ gap) (sym h.is))

pub named_step : (count : ℕ) (more : Due) (b : ℕ) (bytes : List ℕ) (next : Due) → 1 ≤ count → count ≤ 4 → InName count bytes
    → (InName (suc count) (bytes ++ b ∷ []) → HasRead more (bytes ++ b ∷ [])) → named more (kind_of b) ≡ Some next → HasRead next (bytes ++ b ∷ [])
named_step count more b bytes next some few h m e = by (is_name_kind (kind_of b)) refl e
  where
    by : (t : Bool) → is_name_kind (kind_of b) ≡ t → cond t (Some more) (closed (kind_of b)) ≡ Some next → HasRead next (bytes ++ b ∷ [])
    by true k e = to more next (bytes ++ b ∷ []) e (m (name_more count b bytes k h))
    by false k e = closed_step (kind_of b) b bytes next (of_kind b) (name_closed count bytes some few h) e

pub layer_step : (b : ℕ) (bytes : List ℕ) (next : Due) → InName 0 bytes → layer (kind_of b) ≡ Some next → HasRead next (bytes ++ b ∷ [])
layer_step b bytes next h e = by (kind_of b) refl (of_kind b) e
  where
    nil : (l : List ℕ) → length l ≡ 0 → l ≡ []
    nil [] f = refl
    nil (x ∷ xs) f = absurd (omega arith)

    name : (kind : Kind) → kind_of b ≡ kind → cond (is_name_kind kind) (Some OneByte) None ≡ Some next → HasRead next (bytes ++ b ∷ [])
    name kind q e = pick (is_name_kind kind) (ap is_name_kind q) e
      where
        pick : (t : Bool) → is_name_kind (kind_of b) ≡ t → cond t (Some OneByte) None ≡ Some next → HasRead next (bytes ++ b ∷ [])
        pick true k e = to OneByte next (bytes ++ b ∷ []) e (name_more 0 b bytes k h)
        pick false k e = absurd (none_same e)

    by : (kind : Kind) → kind_of b ≡ kind → IsOfKind kind b → layer kind ≡ Some next → HasRead next (bytes ++ b ∷ [])
    by Blank q k e =
        let z : h.name ≡ [] = nil h.name h.few in
        to Layer next (bytes ++ b ∷ []) e (record {
          gap = h.gap ++ b ∷ [];
          name = [];
          blanks = blanks_push h.gap b h.blanks k;
          few = refl;
          bytes_are = refl;
          is =
              ap (λ (l : List ℕ). l ++ b ∷ []) (h.is ∙ ap (λ (l : List ℕ). 76 ∷ (h.gap ++ l)) z)
              ∙ (ap (λ (l : List ℕ). 76 ∷ (l ++ b ∷ [])) (append-nil h.gap) ∙ ap (λ (l : List ℕ). 76 ∷ l) (sym (append-nil (h.gap ++ b ∷ []))));
        })
    by kind q k e = name kind q e
