-- What was read of numbers and transformations, byte by byte.
use Rattle.std.proofs.Common.{◌≡◌, ◌≢◌, ◌⊎◌, inl, inr, ℕ, zero, suc, ◌==◌, Bool, true, false, cond, ◌&&◌, pos, neg_ℤ, List, [], ◌∷◌, ◌++◌, Option, Some, None, codes, refl, sym, ◌∙◌, ap, subst, append_assoc, arith}
use Rattle.std.specs.List.{list_all}
use Rattle.std.specs.Str.Parse.{digits_value}
use Rattle.std.proofs.lemmas.List.{append-nil}
use Rattle.rx_text.specs.NumberInText.{is_digit}
use Rattle.geom.specs.CifCommands.{CifMove, MirrorsX, MirrorsY, CallsSymbol, CifPart, Letters, Unsigned, Signed, SpellsPart, SpellsParts, WritesNumber, move_parts, needs_blank}
use Rattle.geom.specs.CifRefusals.{IsSentence}
use Rattle.cif_syntax.specs.declared.kind.Kind.{Kind}
use Rattle.cif_syntax.specs.declared.kind.Kind.TheVariants.{Blank, Zero, Digit, Minus, Semicolon, M, R, T, X, Y}
use Rattle.cif_syntax.specs.declared.slot.Slot.{Slot}
use Rattle.cif_syntax.specs.declared.slot.Slot.TheVariants.{FirstMove}
use Rattle.cif_syntax.specs.declared.due.Due.{Due}
use Rattle.cif_syntax.specs.declared.due.Due.TheVariants.{First, Definition, Comment, Closed, Text, Layer, OneByte, TwoBytes, ThreeBytes, FourBytes, Number, Sign, Digits, Gap, Moves, Mirror, Whole}
use Rattle.cif_syntax.specs.Kinds.{kind_of}
use Rattle.cif_syntax.specs.Slots.{next_slot, is_signed, may_end, may_move, is_scale}
use Rattle.cif_syntax.specs.Machine.{step, along, go_on, number, begin, digit, digits, behind, behind_digits, begin_next, gap, moves, mirror}
use Rattle.cif_syntax.proofs.Bytes.{IsOfKind, of_kind}
use Rattle.cif_syntax.proofs.Alongs.{value_zero, zero_digit, other_digit}
use Rattle.cif_syntax.proofs.Accepting.{FitsSlot}
use Rattle.cif_syntax.proofs.Reading.{Ended, Opened, Spoken, opened, parts_at, spells_at, push_same, flat_map_push, add_letters, speak_letters, ended_blank, opened_blank, number_ended, number_spoken, ended_spoken, Begun, begun_next, call_parts, ends_command, IsCall, moves_call}
use Rattle.cif_syntax.proofs.Stepping.{HasRead, InDigits, InGap, to, by_byte, none_same, first_step, definition_step, comment_step, text_step, closed_step, named_step, name_closed, layer_step}

-- a state that holds under a test
chosen : (t : Bool) (due next : Due) → cond t (Some due) None ≡ Some next → (t ≡ true) × (Some due ≡ Some next)
chosen true due next e = (refl, e)
chosen false due next e = absurd (none_same e)

spared : (t : Bool) (o : Option Due) (next : Due) → cond t None o ≡ Some next → (t ≡ false) × (o ≡ Some next)
spared true o next e = absurd (none_same e)
spared false o next e = (refl, e)

-- ---- the first byte of a number

one_digit : (slot : Slot) (all : Bool) (ps : List CifPart) (front : List ℕ) (b : ℕ) → is_digit b ≡ true → (b == 48) ≡ all → Begun slot ps → Opened ps front
    → InDigits slot all (front ++ b ∷ [])
one_digit slot all ps front b d z h o = record {
  ps = ps;
  begun = h;
  front = front;
  open_yet = o;
  minus = false;
  may = λ e. absurd cc;
  digits = b ∷ [];
  some = λ e. cc;
  are = ap (λ (v : Bool). v && true) d;
  zeros = same (b == 48) all z;
  is = refl;
}
  where
    same : (u v : Bool) → u ≡ v → (u && true) ≡ v
    same true v e = e
    same false v e = e

begin_step : (slot : Slot) (kind : Kind) (b : ℕ) (ps : List CifPart) (front : List ℕ) (next : Due) → IsOfKind kind b → Begun slot ps → Opened ps front
    → begin slot kind ≡ Some next → HasRead next (front ++ b ∷ [])
begin_step slot Minus b ps front next k h o e =
    let c = chosen (is_signed slot) (Sign slot) next e in
    to (Sign slot) next (front ++ b ∷ []) c.1 (by_byte (Sign slot) front b 45 k.0 (ps, front, h, o, c.0, refl))
begin_step slot Zero b ps front next k h o e =
    to (Digits slot true) next (front ++ b ∷ []) e (one_digit slot true ps front b k.0 (zero_digit b k.1) h o)
begin_step slot Digit b ps front next k h o e =
    to (Digits slot false) next (front ++ b ∷ []) e (one_digit slot false ps front b k.0 (other_digit b k.1) h o)
begin_step slot kind b ps front next k h o e = absurd (none_same e)

number_step : (slot : Slot) (kind : Kind) (b : ℕ) (bytes : List ℕ) (next : Due) → IsOfKind kind b → HasRead (Number slot) bytes → number slot kind ≡ Some next
    → HasRead next (bytes ++ b ∷ [])
number_step slot Blank b bytes next k h e = to (Number slot) next (bytes ++ b ∷ []) e (h.0, h.1, opened_blank h.0 bytes b k h.2, h.3)
number_step slot kind b bytes next k h e = begin_step slot kind b h.0 bytes next k h.1 h.2 e

sign_digit : (slot : Slot) (all : Bool) (b : ℕ) (bytes : List ℕ) → is_digit b ≡ true → (b == 48) ≡ all → HasRead (Sign slot) bytes → InDigits slot all (bytes ++ b ∷ [])
sign_digit slot all b bytes d z h = record {
  ps = h.0;
  begun = h.2;
  front = h.1;
  open_yet = h.3;
  minus = true;
  may = λ e. h.4;
  digits = b ∷ [];
  some = λ e. cc;
  are = ap (λ (v : Bool). v && true) d;
  zeros = same (b == 48) all z;
  is = ap (λ (l : List ℕ). l ++ b ∷ []) h.5 ∙ append_assoc h.1 (45 ∷ []) (b ∷ []);
}
  where
    same : (u v : Bool) → u ≡ v → (u && true) ≡ v
    same true v e = e
    same false v e = e

sign_step : (slot : Slot) (kind : Kind) (b : ℕ) (bytes : List ℕ) (next : Due) → IsOfKind kind b → HasRead (Sign slot) bytes → digit slot true kind ≡ Some next
    → HasRead next (bytes ++ b ∷ [])
sign_step slot Zero b bytes next k h e = to (Digits slot true) next (bytes ++ b ∷ []) e (sign_digit slot true b bytes k.0 (zero_digit b k.1) h)
sign_step slot Digit b bytes next k h e = to (Digits slot false) next (bytes ++ b ∷ []) e (sign_digit slot false b bytes k.0 (other_digit b k.1) h)
sign_step slot kind b bytes next k h e = absurd (none_same e)

-- ---- digits

all_push : (p : ℕ → Bool) (xs : List ℕ) (x : ℕ) → list_all p (xs ++ x ∷ []) ≡ (list_all p xs && p x)
all_push p [] x = same (p x)
  where
    same : (u : Bool) → (u && true) ≡ u
    same true = refl
    same false = refl
all_push p (y ∷ ys) x = ap (λ (v : Bool). p y && v) (all_push p ys x) ∙ grouped (p y) (list_all p ys) (p x)
  where
    grouped : (a b c : Bool) → (a && (b && c)) ≡ ((a && b) && c)
    grouped true b c = refl
    grouped false b c = refl

cond_push : (t : Bool) (ds : List ℕ) (b : ℕ) → cond t (45 ∷ ds) ds ++ b ∷ [] ≡ cond t (45 ∷ (ds ++ b ∷ [])) (ds ++ b ∷ [])
cond_push true ds b = refl
cond_push false ds b = refl

more_digit : (slot : Slot) (all more : Bool) (b : ℕ) (bytes : List ℕ) → is_digit b ≡ true → (all && (b == 48)) ≡ more → InDigits slot all bytes
    → InDigits slot more (bytes ++ b ∷ [])
more_digit slot all more b bytes d z h = record {
  ps = h.ps;
  begun = h.begun;
  front = h.front;
  open_yet = h.open_yet;
  minus = h.minus;
  may = h.may;
  digits = h.digits ++ b ∷ [];
  some = not_nil h.digits b;
  are = all_push is_digit h.digits b ∙ (ap (λ (v : Bool). v && is_digit b) h.are ∙ d);
  zeros = all_push (λ n. n == 48) h.digits b ∙ (ap (λ (v : Bool). v && (b == 48)) h.zeros ∙ z);
  is =
      ap (λ (l : List ℕ). l ++ b ∷ []) h.is ∙ (append_assoc h.front (cond h.minus (45 ∷ h.digits) h.digits) (b ∷ [])
      ∙ ap (λ (l : List ℕ). h.front ++ l) (cond_push h.minus h.digits b));
}
  where
    not_nil : (xs : List ℕ) (x : ℕ) → xs ++ x ∷ [] ≢ []
    not_nil [] x e = cc
    not_nil (y ∷ ys) x e = cc

and_true : (all t : Bool) → t ≡ true → (all && t) ≡ all
and_true true t e = e
and_true false t e = refl

and_false : (all t : Bool) → t ≡ false → (all && t) ≡ false
and_false true t e = e
and_false false t e = refl

-- the number that the digits write
pub record IsPart (slot : Slot) (word : List ℕ) : Type 0 where
  pub part : CifPart
  pub fits : FitsSlot slot part
  pub spelled : SpellsPart part word

part_of : (slot : Slot) (all : Bool) (bytes : List ℕ) → (all && is_scale slot) ≡ false → (h : InDigits slot all bytes)
    → IsPart slot (cond h.minus (45 ∷ h.digits) h.digits)
part_of slot all bytes z h = by (is_signed slot) refl h.minus refl
  where
    written : WritesNumber (digits_value 10 h.digits) h.digits
    written = record { some = h.some; digits = h.are; value = refl }

    scaled : is_scale slot ≡ true → digits_value 10 h.digits ≢ 0
    scaled s e =
        let f = value_zero 0 h.digits h.are e in
        let t : all ≡ true = sym h.zeros ∙ f.1 in
        let g : (all && is_scale slot) ≡ true = ap (λ (v : Bool). v && is_scale slot) t ∙ s in
        let q : false ≡ true = sym z ∙ g in cc

    by : (t : Bool) → is_signed slot ≡ t → (m : Bool) → h.minus ≡ m → IsPart slot (cond h.minus (45 ∷ h.digits) h.digits)
    by true s true e =
        let P : Bool → Type 0 = λ v. IsPart slot (cond v (45 ∷ h.digits) h.digits) in
        subst P (sym e) (record {
          part = Signed (neg_ℤ (pos (digits_value 10 h.digits)));
          fits = s;
          spelled = inr (digits_value 10 h.digits, h.digits, refl, refl, written);
        })
    by true s false e =
        let P : Bool → Type 0 = λ v. IsPart slot (cond v (45 ∷ h.digits) h.digits) in
        subst P (sym e) (record { part = Signed (pos (digits_value 10 h.digits)); fits = s; spelled = inl (digits_value 10 h.digits, refl, written) })
    by false s true e = let q : true ≡ false = sym (h.may e) ∙ s in absurd cc
    by false s false e =
        let P : Bool → Type 0 = λ v. IsPart slot (cond v (45 ∷ h.digits) h.digits) in
        subst P (sym e) (record { part = Unsigned (digits_value 10 h.digits); fits = (s, scaled); spelled = written })

-- ---- behind a number

no_letter_blank : (slot : Slot) (p : CifPart) (w : List ℕ) → FitsSlot slot p → (qs : List CifPart) → needs_blank p (Letters w ∷ qs) ≡ false
no_letter_blank slot (Letters v) w f qs = absurd f
no_letter_blank slot (Unsigned n) w f qs = refl
no_letter_blank slot (Signed z) w f qs = refl

none_behind : (slot : Slot) (p : CifPart) → FitsSlot slot p → needs_blank p [] ≡ false
none_behind slot p f = refl

move_begun : (ps : List CifPart) (w : List ℕ) → ((w ≡ codes "T") ⊎ (w ≡ codes "R")) → IsCall ps → Begun FirstMove (ps ++ Letters w ∷ [])
move_begun ps w k c = (c.number, c.moves, w, k, push_same ps _ _ c.is)

behind_step : (slot : Slot) (kind : Kind) (b : ℕ) (ps : List CifPart) (p : CifPart) (bytes : List ℕ) (next : Due) → IsOfKind kind b → Begun slot ps → FitsSlot slot p
    → Spoken ps p bytes → behind slot kind ≡ Some next → HasRead next (bytes ++ b ∷ [])
behind_step slot Semicolon b ps p bytes next k h f s e =
    let c = chosen (may_end slot) Whole next e in
    let parts : SpellsParts (ps ++ p ∷ []) bytes = spells_at (ps ++ p ∷ []) (bytes ++ []) bytes (append-nil bytes) (s [] [] refl refl) in
    let i = ends_command slot ps p bytes c.0 h f parts in
    to Whole next (bytes ++ b ∷ []) c.1 (by_byte Whole bytes b 59 k.0 (IsSentence.command (bytes ++ 59 ∷ []) bytes i.command refl i.spelled))
behind_step slot T b ps p bytes next k h f s e =
    let c = chosen (may_move slot) (Number FirstMove) next e in
    let i = moves_call slot ps p c.0 h f in
    to (Number FirstMove) next (bytes ++ b ∷ []) c.1
    (by_byte (Number FirstMove) bytes b 84 k.0 (
      (ps ++ p ∷ []) ++ Letters (codes "T") ∷ [],
      move_begun (ps ++ p ∷ []) (codes "T") (inl refl) i,
      opened ((ps ++ p ∷ []) ++ Letters (codes "T") ∷ []) (bytes ++ codes "T") (speak_letters ps p bytes (codes "T") (no_letter_blank slot p (codes "T") f) s),
      refl,
    ))
behind_step slot R b ps p bytes next k h f s e =
    let c = chosen (may_move slot) (Number FirstMove) next e in
    let i = moves_call slot ps p c.0 h f in
    to (Number FirstMove) next (bytes ++ b ∷ []) c.1
    (by_byte (Number FirstMove) bytes b 82 k.0 (
      (ps ++ p ∷ []) ++ Letters (codes "R") ∷ [],
      move_begun (ps ++ p ∷ []) (codes "R") (inr refl) i,
      opened ((ps ++ p ∷ []) ++ Letters (codes "R") ∷ []) (bytes ++ codes "R") (speak_letters ps p bytes (codes "R") (no_letter_blank slot p (codes "R") f) s),
      refl,
    ))
behind_step slot M b ps p bytes next k h f s e =
    let c = chosen (may_move slot) Mirror next e in
    let i = moves_call slot ps p c.0 h f in
    to Mirror next (bytes ++ b ∷ []) c.1
    (by_byte Mirror bytes b 77 k.0 (ps ++ p ∷ [], i, speak_letters ps p bytes (codes "M") (no_letter_blank slot p (codes "M") f) s))
behind_step slot kind b ps p bytes next k h f s e = absurd (none_same e)

-- behind digits, where the number may be what it is
digits_end : (slot : Slot) (all : Bool) (kind : Kind) (b : ℕ) (bytes : List ℕ) (next : Due) → IsOfKind kind b → InDigits slot all bytes
    → (all && is_scale slot) ≡ false → behind_digits slot kind ≡ Some next → HasRead next (bytes ++ b ∷ [])
digits_end slot all kind b bytes next k h z e =
    let i = part_of slot all bytes z h in
    let word : List ℕ = cond h.minus (45 ∷ h.digits) h.digits in
    by kind k e i.part i.fits i.spelled
  where
    by : (kind : Kind) → IsOfKind kind b → behind_digits slot kind ≡ Some next → (p : CifPart) → FitsSlot slot p
        → SpellsPart p (cond h.minus (45 ∷ h.digits) h.digits) → HasRead next (bytes ++ b ∷ [])
    by Blank k e p f w =
        let P : List ℕ → Type 0 = λ l. Ended (h.ps ++ p ∷ []) (l ++ b ∷ []) in
        to (Gap slot) next (bytes ++ b ∷ []) e (record {
          ps = h.ps;
          part = p;
          begun = h.begun;
          fits = f;
          ended = subst P (sym h.is) (number_ended h.ps p h.front (cond h.minus (45 ∷ h.digits) h.digits) b k w h.open_yet);
          before = bytes;
          blank = b;
          apart = refl;
          is_blank = k;
        })
    by kind k e p f w =
        let P : List ℕ → Type 0 = λ l. Spoken h.ps p l in
        behind_step slot kind b h.ps p bytes next k h.begun f
        (subst P (sym h.is) (number_spoken h.ps p h.front (cond h.minus (45 ∷ h.digits) h.digits) w h.open_yet)) e

digits_step : (slot : Slot) (all : Bool) (kind : Kind) (b : ℕ) (bytes : List ℕ) (next : Due) → IsOfKind kind b → InDigits slot all bytes
    → digits slot all kind ≡ Some next → HasRead next (bytes ++ b ∷ [])
digits_step slot all Zero b bytes next k h e =
    to (Digits slot all) next (bytes ++ b ∷ []) e (more_digit slot all all b bytes k.0 (and_true all (b == 48) (zero_digit b k.1)) h)
digits_step slot all Digit b bytes next k h e =
    to (Digits slot false) next (bytes ++ b ∷ []) e (more_digit slot all false b bytes k.0 (and_false all (b == 48) (other_digit b k.1)) h)
digits_step slot all kind b bytes next k h e =
    let c = spared (all && is_scale slot) (behind_digits slot kind) next e in digits_end slot all kind b bytes next k h c.0 c.1

next_step : (slot : Slot) (kind : Kind) (b : ℕ) (bytes : List ℕ) (next : Due) → IsOfKind kind b → InGap slot bytes → begin_next (next_slot slot) kind ≡ Some next
    → HasRead next (bytes ++ b ∷ [])
next_step slot kind b bytes next k h e = by (next_slot slot) refl e
  where
    by : (o : Option Slot) → next_slot slot ≡ o → begin_next o kind ≡ Some next → HasRead next (bytes ++ b ∷ [])
    by None n e = absurd (none_same e)
    by (Some after) n e =
        begin_step after kind b (h.ps ++ h.part ∷ []) bytes next k (begun_next slot after h.ps h.part n h.begun h.fits) (opened (h.ps ++ h.part ∷ []) bytes h.ended) e

gap_step : (slot : Slot) (kind : Kind) (b : ℕ) (bytes : List ℕ) (next : Due) → IsOfKind kind b → InGap slot bytes → gap slot kind ≡ Some next
    → HasRead next (bytes ++ b ∷ [])
gap_step slot Blank b bytes next k h e =
    to (Gap slot) next (bytes ++ b ∷ []) e
    (record { ps = h.ps; part = h.part; begun = h.begun; fits = h.fits; ended = ended_blank (h.ps ++ h.part ∷ []) bytes b k h.ended; before = bytes; blank = b; apart = refl; is_blank = k })
gap_step slot Zero b bytes next k h e = next_step slot Zero b bytes next k h e
gap_step slot Digit b bytes next k h e = next_step slot Digit b bytes next k h e
gap_step slot Minus b bytes next k h e = next_step slot Minus b bytes next k h e
gap_step slot kind b bytes next k h e = behind_step slot kind b h.ps h.part bytes next k h.begun h.fits (ended_spoken h.ps h.part bytes h.ended) e

-- ---- transformations that end in letters

moves_step : (kind : Kind) (b : ℕ) (bytes : List ℕ) (next : Due) → IsOfKind kind b → HasRead Moves bytes → moves kind ≡ Some next → HasRead next (bytes ++ b ∷ [])
moves_step Blank b bytes next k h e = to Moves next (bytes ++ b ∷ []) e (h.0, h.1, ended_blank h.0 bytes b k h.2)
moves_step Semicolon b bytes next k h e =
    let s : SpellsParts (h.0 ++ []) (bytes ++ []) = h.2 [] [] [] refl refl in
    let t : SpellsParts (call_parts h.1.number h.1.moves) bytes =
    spells_at (call_parts h.1.number h.1.moves) (bytes ++ []) bytes (append-nil bytes) (parts_at (h.0 ++ []) _ (bytes ++ []) (append-nil h.0 ∙ h.1.is) s) in
    to Whole next (bytes ++ b ∷ []) e
    (by_byte Whole bytes b 59 k.0 (IsSentence.command (bytes ++ 59 ∷ []) bytes (CallsSymbol h.1.number h.1.moves) refl (tt, t)))
moves_step T b bytes next k h e =
    to (Number FirstMove) next (bytes ++ b ∷ []) e
    (by_byte (Number FirstMove) bytes b 84 k.0 (
      h.0 ++ Letters (codes "T") ∷ [],
      move_begun h.0 (codes "T") (inl refl) h.1,
      opened (h.0 ++ Letters (codes "T") ∷ []) (bytes ++ codes "T") (add_letters h.0 bytes (codes "T") h.2),
      refl,
    ))
moves_step R b bytes next k h e =
    to (Number FirstMove) next (bytes ++ b ∷ []) e
    (by_byte (Number FirstMove) bytes b 82 k.0 (
      h.0 ++ Letters (codes "R") ∷ [],
      move_begun h.0 (codes "R") (inr refl) h.1,
      opened (h.0 ++ Letters (codes "R") ∷ []) (bytes ++ codes "R") (add_letters h.0 bytes (codes "R") h.2),
      refl,
    ))
moves_step M b bytes next k h e = to Mirror next (bytes ++ b ∷ []) e (by_byte Mirror bytes b 77 k.0 (h.0, h.1, add_letters h.0 bytes (codes "M") h.2))
moves_step kind b bytes next k h e = absurd (none_same e)

mirror_call : (ps : List CifPart) (w : List ℕ) (move : CifMove) → move_parts move ≡ Letters (codes "M") ∷ Letters w ∷ [] → IsCall ps
    → IsCall ((ps ++ Letters (codes "M") ∷ []) ++ Letters w ∷ [])
mirror_call ps w move m c = record {
  number = c.number;
  moves = c.moves ++ move ∷ [];
  is =
      append_assoc ps (Letters (codes "M") ∷ []) (Letters w ∷ [])
      ∙ (ap (λ (l : List CifPart). l ++ Letters (codes "M") ∷ Letters w ∷ []) c.is
      ∙ (ap (λ (l : List CifPart). call_parts c.number c.moves ++ l) (sym m)
      ∙ ap (λ (l : List CifPart). Letters (codes "C") ∷ Unsigned c.number ∷ l) (sym (flat_map_push move_parts c.moves move))));
}

mirror_step : (kind : Kind) (b : ℕ) (bytes : List ℕ) (next : Due) → IsOfKind kind b → HasRead Mirror bytes → mirror kind ≡ Some next → HasRead next (bytes ++ b ∷ [])
mirror_step Blank b bytes next k h e =
    to Mirror next (bytes ++ b ∷ []) e (h.0, h.1, ended_blank (h.0 ++ Letters (codes "M") ∷ []) bytes b k h.2)
mirror_step X b bytes next k h e =
    to Moves next (bytes ++ b ∷ []) e
    (by_byte Moves bytes b 88 k.0 (
      (h.0 ++ Letters (codes "M") ∷ []) ++ Letters (codes "X") ∷ [],
      mirror_call h.0 (codes "X") MirrorsX refl h.1,
      add_letters (h.0 ++ Letters (codes "M") ∷ []) bytes (codes "X") h.2,
    ))
mirror_step Y b bytes next k h e =
    to Moves next (bytes ++ b ∷ []) e
    (by_byte Moves bytes b 89 k.0 (
      (h.0 ++ Letters (codes "M") ∷ []) ++ Letters (codes "Y") ∷ [],
      mirror_call h.0 (codes "Y") MirrorsY refl h.1,
      add_letters (h.0 ++ Letters (codes "M") ∷ []) bytes (codes "Y") h.2,
    ))
mirror_step kind b bytes next k h e = absurd (none_same e)

-- ---- one byte, and many

pub read_step : (due next : Due) (b : ℕ) (bytes : List ℕ) → HasRead due bytes → step due (kind_of b) ≡ Some next → HasRead next (bytes ++ b ∷ [])
read_step First next b bytes h e = let P : List ℕ → Type 0 = λ l. HasRead next (l ++ b ∷ []) in subst P (sym h) (first_step (kind_of b) b next (of_kind b) e)
read_step Definition next b bytes h e =
    let P : List ℕ → Type 0 = λ l. HasRead next (l ++ b ∷ []) in subst P (sym h) (definition_step (kind_of b) b next (of_kind b) e)
read_step (Comment zero) next b bytes h e = absurd h
read_step (Comment (suc n)) next b bytes h e =
    let P : List ℕ → Type 0 = λ l. HasRead next (l ++ b ∷ []) in
    subst P (sym h.1) (to _ next (40 ∷ (h.0 ++ b ∷ [])) e (comment_step n b h.0 h.2))
read_step Closed next b bytes h e = closed_step (kind_of b) b bytes next (of_kind b) h e
read_step Text next b bytes h e = to _ next (bytes ++ b ∷ []) e (text_step b bytes h)
read_step Layer next b bytes h e = layer_step b bytes next h e
read_step OneByte next b bytes h e = named_step 1 TwoBytes b bytes next (omega arith) (omega arith) h (λ n. n) e
read_step TwoBytes next b bytes h e = named_step 2 ThreeBytes b bytes next (omega arith) (omega arith) h (λ n. n) e
read_step ThreeBytes next b bytes h e = named_step 3 FourBytes b bytes next (omega arith) (omega arith) h (λ n. n) e
read_step FourBytes next b bytes h e = closed_step (kind_of b) b bytes next (of_kind b) (name_closed 4 bytes (omega arith) (omega arith) h) e
read_step (Number slot) next b bytes h e = number_step slot (kind_of b) b bytes next (of_kind b) h e
read_step (Sign slot) next b bytes h e = sign_step slot (kind_of b) b bytes next (of_kind b) h e
read_step (Digits slot all) next b bytes h e = digits_step slot all (kind_of b) b bytes next (of_kind b) h e
read_step (Gap slot) next b bytes h e = gap_step slot (kind_of b) b bytes next (of_kind b) h e
read_step Moves next b bytes h e = moves_step (kind_of b) b bytes next (of_kind b) h e
read_step Mirror next b bytes h e = mirror_step (kind_of b) b bytes next (of_kind b) h e
read_step Whole next b bytes h e = absurd (none_same e)

pub reads_on : (due last : Due) (seen bytes : List ℕ) → HasRead due seen → along due bytes ≡ Some last → HasRead last (seen ++ bytes)
reads_on due last seen [] h e =
    let P : List ℕ → Type 0 = λ l. HasRead last l in subst P (sym (append-nil seen)) (to due last seen e h)
reads_on due last seen (b ∷ bs) h e = by (step due (kind_of b)) refl e (λ next. reads_on next last (seen ++ b ∷ []) bs)
  where
    by : (o : Option Due) → step due (kind_of b) ≡ o → go_on o (λ next. along next bs) ≡ Some last
        → ((next : Due) → HasRead next (seen ++ b ∷ []) → along next bs ≡ Some last → HasRead last ((seen ++ b ∷ []) ++ bs)) → HasRead last (seen ++ b ∷ bs)
    by None s e r = absurd (none_same e)
    by (Some next) s e r =
        let P : List ℕ → Type 0 = λ l. HasRead last l in
        subst P (append_assoc seen (b ∷ []) bs) (r next (read_step due next b seen h s) e)

-- what leads to the end is a sentence
pub reads_sentence : (bytes : List ℕ) → along First bytes ≡ Some Whole → IsSentence bytes
reads_sentence bytes e = reads_on First Whole [] bytes refl e
