-- The bytes of each sentence are run through to its end.
use Rattle.std.proofs.Common.{◌≡◌, ◌≢◌, ◌⊎◌, inl, inr, ℕ, suc, ◌==◌, Bool, true, false, not, cond, ◌&&◌, ◌||◌, ℤ, pos, List, [], ◌∷◌, ◌++◌, Option, Some, None, codes, refl, sym, ◌∙◌, ap, subst, append_assoc, arith}
use Rattle.std.specs.List.{list_all, flat_map}
use Rattle.rx_text.specs.NumberInText.{is_digit}
use Rattle.geom.specs.declared.point.Point.{Point}
use Rattle.geom.specs.CifCommands.{CifMove, Translates, MirrorsX, MirrorsY, Rotates, CifCommand, Empty, Opens, Closes, CallsSymbol, SetsLayer, DrawsBox, DrawsPolygon, DrawsWire, Extension, CifPart, Letters, Unsigned, Signed, SpellsPart, PartThen, SpellsParts, AreCifBlanks, WritesNumber, WritesSigned, IsNested, IsExtension, IsShortName, SpellsCommand, is_capital, is_cif_blank, point_parts, move_parts, direction_parts, needs_blank}
use Rattle.geom.specs.CifRefusals.{IsSentence}
use Rattle.cif_syntax.specs.declared.kind.Kind.{Kind}
use Rattle.cif_syntax.specs.declared.kind.Kind.TheVariants.{Blank, Zero, Digit, Minus, Open, Close, Semicolon, M, R, T}
use Rattle.cif_syntax.specs.declared.slot.Slot.{Slot}
use Rattle.cif_syntax.specs.declared.slot.Slot.TheVariants.{Symbol, Times, Per, Called, FirstMove, SecondMove, Length, Width, CentreX, CentreY, DirectionX, DirectionY, Wire, PointX, PointY}
use Rattle.cif_syntax.specs.declared.due.Due.{Due}
use Rattle.cif_syntax.specs.declared.due.Due.TheVariants.{First, Comment, Closed, Text, Layer, OneByte, TwoBytes, ThreeBytes, FourBytes, Number, Sign, Digits, Gap, Moves, Mirror, Whole}
use Rattle.cif_syntax.specs.Kinds.{kind_of, is_name_kind}
use Rattle.cif_syntax.specs.Slots.{next_slot, is_signed, may_end, may_move, is_scale}
use Rattle.cif_syntax.specs.Machine.{step, along, comment, text, closed, named, behind, begin_next}
use Rattle.std.specs.Str.Parse.{digits_value}
use Rattle.cif_syntax.proofs.Bytes.{blank_kind, digit_kind, name_kind, of_kind, IsOfKind}
use Rattle.cif_syntax.proofs.Alongs.{along_then, along_step, all_first, blanks_stay, gap_run, after, digits_run, are_zeros, zero_value}

-- ---- numbers

-- The number may stand at this slot.
abbrev pub FitsSlot : Slot → CifPart → Type 0
FitsSlot slot (Letters word) = ⊥
FitsSlot slot (Unsigned n) = (is_signed slot ≡ false) × (is_scale slot ≡ true → n ≢ 0)
FitsSlot slot (Signed z) = is_signed slot ≡ true

-- the number of this slot may begin
abbrev pub Starts : Slot → Due → Type 0
Starts slot due = (due ≡ Number slot) ⊎ ((before : Slot) × (next_slot before ≡ Some slot) × (due ≡ Gap before))

pub signed_plain : (slot : Slot) → is_signed slot ≡ true → is_scale slot ≡ false
signed_plain Times h = absurd cc
signed_plain Per h = absurd cc
signed_plain slot h = refl

pub starts_zero : (slot : Slot) (due : Due) → Starts slot due → step due Zero ≡ Some (Digits slot true)
starts_zero slot due (inl e) = ap (λ (d : Due). step d Zero) e
starts_zero slot due (inr (b, n, e)) = ap (λ (d : Due). step d Zero) e ∙ ap (λ (o : Option Slot). begin_next o Zero) n

pub starts_digit : (slot : Slot) (due : Due) → Starts slot due → step due Digit ≡ Some (Digits slot false)
starts_digit slot due (inl e) = ap (λ (d : Due). step d Digit) e
starts_digit slot due (inr (b, n, e)) = ap (λ (d : Due). step d Digit) e ∙ ap (λ (o : Option Slot). begin_next o Digit) n

starts_sign : (slot : Slot) (due : Due) → is_signed slot ≡ true → Starts slot due → step due Minus ≡ Some (Sign slot)
starts_sign slot due s (inl e) = ap (λ (d : Due). step d Minus) e ∙ ap (λ (b : Bool). cond b (Some (Sign slot)) None) s
starts_sign slot due s (inr (b, n, e)) =
    ap (λ (d : Due). step d Minus) e ∙ (ap (λ (o : Option Slot). begin_next o Minus) n ∙ ap (λ (v : Bool). cond v (Some (Sign slot)) None) s)

-- the digits of a number lead to this
pub record DigitsRun (slot : Slot) (due : Due) (n : ℕ) (word : List ℕ) : Type 0 where
  pub all : Bool
  pub run : along due word ≡ Some (Digits slot all)
  pub only : all ≡ true → n ≡ 0

pub number_run : (slot : Slot) (due : Due) (n : ℕ) (word : List ℕ) → step due Zero ≡ Some (Digits slot true) → step due Digit ≡ Some (Digits slot false)
    → WritesNumber n word → DigitsRun slot due n word
number_run slot due n [] z d w = absurd (w.some refl)
number_run slot due n (b ∷ bs) z d w =
    let f = all_first is_digit b bs w.digits in
    elim (digit_kind b f.0) [
      | inl k ↦
          record {
            all = true && are_zeros bs;
            run = along_step due (Digits slot true) b bs (ap (step due) k.0 ∙ z) ∙ digits_run slot true bs f.1;
            only = λ e. sym w.value ∙ zeros (b ∷ bs) w.digits (ap (λ (v : Bool). v && are_zeros bs) (ap (λ (m : ℕ). m == 48) k.1) ∙ e);
          }
      | inr k ↦
          record {
            all = false && are_zeros bs;
            run = along_step due (Digits slot false) b bs (ap (step due) k.0 ∙ d) ∙ digits_run slot false bs f.1;
            only = λ e. absurd cc;
          }
    ]
  where
    zeros : (ds : List ℕ) → list_all is_digit ds ≡ true → are_zeros ds ≡ true → digits_value 10 ds ≡ 0
    zeros ds h e = zero_value 0 ds h refl e

signed_run : (slot : Slot) (due : Due) (z : ℤ) (word : List ℕ) → is_signed slot ≡ true → Starts slot due → WritesSigned z word
    → (all : Bool) × (along due word ≡ Some (Digits slot all))
signed_run slot due z word s h (inl (n, e, w)) =
    let r = number_run slot due n word (starts_zero slot due h) (starts_digit slot due h) w in (r.all, r.run)
signed_run slot due z word s h (inr (n, ds, e, f, w)) =
    let r = number_run slot (Sign slot) n ds refl refl w in
    let P : List ℕ → Type 0 = λ l. along due l ≡ Some (Digits slot r.all) in
    (r.all, subst P (sym f) (along_step due (Sign slot) 45 ds (starts_sign slot due s h) ∙ r.run))

-- what is due behind a number of a slot and blanks, of which there are some where they are needed
pub data Behind (slot : Slot) (needs : Bool) (due : Due) : Type 0 where
  apart : due ≡ Gap slot → Behind slot needs due
  close : (all : Bool) → needs ≡ false → (all && is_scale slot) ≡ false → due ≡ Digits slot all → Behind slot needs due

-- a part of a command was run through, with the blanks behind it
pub record PartRun (slot : Slot) (needs : Bool) (More : List ℕ → Type 0) (due : Due) (bytes : List ℕ) : Type 0 where
  pub next : Due
  pub front : List ℕ
  pub rest : List ℕ
  pub parted : bytes ≡ front ++ rest
  pub run : (tail : List ℕ) → along due (bytes ++ tail) ≡ along next (rest ++ tail)
  pub behind : Behind slot needs next
  pub more : More rest

plain_all : (all scale : Bool) (n : ℕ) → (all ≡ true → n ≡ 0) → (scale ≡ true → n ≢ 0) → (all && scale) ≡ false
plain_all true true n a s = absurd (s refl (a refl))
plain_all true false n a s = refl
plain_all false scale n a s = refl

never_scale : (all scale : Bool) → scale ≡ false → (all && scale) ≡ false
never_scale true scale e = e
never_scale false scale e = refl

word_run : (slot : Slot) (due : Due) (part : CifPart) (word : List ℕ) → Starts slot due → FitsSlot slot part → SpellsPart part word
    → (all : Bool) × ((all && is_scale slot) ≡ false) × (along due word ≡ Some (Digits slot all))
word_run slot due (Letters w) word h f s = absurd f
word_run slot due (Unsigned n) word h f s =
    let r = number_run slot due n word (starts_zero slot due h) (starts_digit slot due h) s in
    (r.all, plain_all r.all (is_scale slot) n r.only f.1, r.run)
word_run slot due (Signed z) word h f s =
    let r = signed_run slot due z word f h s in (r.0, never_scale r.0 (is_scale slot) (signed_plain slot f), r.1)

behind_gap : (slot : Slot) (all needs : Bool) (gap : List ℕ) → (all && is_scale slot) ≡ false → (needs ≡ true → gap ≢ []) → Behind slot needs (after slot all gap)
behind_gap slot all true [] z h = absurd (h refl refl)
behind_gap slot all false [] z h = close all refl z refl
behind_gap slot all needs (b ∷ bs) z h = apart refl

three : (word gap rest tail : List ℕ) → (word ++ gap ++ rest) ++ tail ≡ word ++ (gap ++ (rest ++ tail))
three word gap rest tail =
    append_assoc (word ++ gap) rest tail ∙ append_assoc word gap (rest ++ tail)

pub part_run : (slot : Slot) (due : Due) (part : CifPart) (needs : Bool) (More : List ℕ → Type 0) (bytes : List ℕ) → Starts slot due → FitsSlot slot part
    → PartThen part needs More bytes → PartRun slot needs More due bytes
part_run slot due part needs More bytes h f p =
    let w = word_run slot due part p.word h f p.spelled in
    record {
      next = after slot w.0 p.gap;
      front = p.word ++ p.gap;
      rest = p.rest;
      parted = p.is;
      run =
          λ tail. ap (λ (l : List ℕ). along due (l ++ tail)) p.is
          ∙ (ap (along due) (three p.word p.gap p.rest tail)
          ∙ (along_then due (Digits slot w.0) p.word (p.gap ++ (p.rest ++ tail)) w.2
          ∙ along_then (Digits slot w.0) (after slot w.0 p.gap) p.gap (p.rest ++ tail) (gap_run slot w.0 p.gap w.1 p.blanks)));
      behind = behind_gap slot w.0 needs p.gap w.1 p.apart;
      more = p.more;
    }

-- behind blanks that are needed the next number may begin
pub starts_next : (slot next : Slot) (needs : Bool) (due : Due) → needs ≡ true → next_slot slot ≡ Some next → Behind slot needs due → Starts next due
starts_next slot next needs due n e (apart g) = inr (slot, e, g)
starts_next slot next needs due n e (close all f z g) = let q : true ≡ false = sym n ∙ f in absurd cc

-- behind a number that may end a command the semicolon ends it
pub ends_behind : (slot : Slot) (needs : Bool) (due : Due) → may_end slot ≡ true → Behind slot needs due → along due (codes ";") ≡ Some Whole
ends_behind slot needs due m (apart g) = ap (λ (d : Due). along d (codes ";")) g ∙ along_step (Gap slot) Whole 59 [] (ap (λ (v : Bool). cond v (Some Whole) None) m)
ends_behind slot needs due m (close all f z g) =
    ap (λ (d : Due). along d (codes ";")) g
    ∙ along_step (Digits slot all) Whole 59 []
    (ap (λ (v : Bool). cond v None (behind slot Semicolon)) z ∙ ap (λ (v : Bool). cond v (Some Whole) None) m)

-- ---- letters

pub record LetterRun (More : List ℕ → Type 0) (due next : Due) (bytes : List ℕ) : Type 0 where
  pub front : List ℕ
  pub rest : List ℕ
  pub parted : bytes ≡ front ++ rest
  pub run : (tail : List ℕ) → along due (bytes ++ tail) ≡ along next (rest ++ tail)
  pub more : More rest

pub letter_run : (due next : Due) (word : List ℕ) (needs : Bool) (More : List ℕ → Type 0) (bytes : List ℕ) → along due word ≡ Some next → step next Blank ≡ Some next
    → PartThen (Letters word) needs More bytes → LetterRun More due next bytes
letter_run due next word needs More bytes w b p = record {
  front = p.word ++ p.gap;
  rest = p.rest;
  parted = p.is;
  run =
      λ tail. ap (λ (l : List ℕ). along due (l ++ tail)) p.is
      ∙ (ap (along due) (three p.word p.gap p.rest tail)
      ∙ (along_then due next p.word (p.gap ++ (p.rest ++ tail)) (ap (along due) p.spelled ∙ w)
      ∙ along_then next next p.gap (p.rest ++ tail) (blanks_stay next p.gap b p.blanks)));
  more = p.more;
}

-- ---- points and transformations

-- nothing is left but the end
nothing_left : (due : Due) (bytes : List ℕ) → bytes ≡ [] → along due (codes ";") ≡ Some Whole → along due (bytes ++ codes ";") ≡ Some Whole
nothing_left due bytes e h = ap (λ (l : List ℕ). along due (l ++ codes ";")) e ∙ h

pub points_run : (due : Due) (p : Point) (ps : List Point) (bytes : List ℕ) → Starts PointX due → SpellsParts (flat_map point_parts (p ∷ ps)) bytes
    → along due (bytes ++ codes ";") ≡ Some Whole
points_run due p [] bytes h s =
    let x = part_run PointX due (Signed p.x) true _ bytes h refl s in
    let y = part_run PointY x.next (Signed p.y) false _ x.rest (starts_next PointX PointY true x.next refl refl x.behind) refl x.more in
    x.run (codes ";") ∙ (y.run (codes ";") ∙ nothing_left y.next y.rest y.more (ends_behind PointY false y.next refl y.behind))
points_run due p (q ∷ qs) bytes h s =
    let x = part_run PointX due (Signed p.x) true _ bytes h refl s in
    let y = part_run PointY x.next (Signed p.y) true _ x.rest (starts_next PointX PointY true x.next refl refl x.behind) refl x.more in
    x.run (codes ";") ∙ (y.run (codes ";") ∙ points_run y.next q qs y.rest (starts_next PointY PointX true y.next refl refl y.behind) y.more)

-- a transformation may come, or the end
pub record CanMove (due : Due) : Type 0 where
  pub t : step due T ≡ Some (Number FirstMove)
  pub r : step due R ≡ Some (Number FirstMove)
  pub m : step due M ≡ Some Mirror
  pub end : along due (codes ";") ≡ Some Whole

pub behind_moves : (slot : Slot) (needs : Bool) (due : Due) → may_end slot ≡ true → may_move slot ≡ true → Behind slot needs due → CanMove due
behind_moves slot needs due e m (apart g) = record {
  t = ap (λ (d : Due). step d T) g ∙ ap (λ (v : Bool). cond v (Some (Number FirstMove)) None) m;
  r = ap (λ (d : Due). step d R) g ∙ ap (λ (v : Bool). cond v (Some (Number FirstMove)) None) m;
  m = ap (λ (d : Due). step d M) g ∙ ap (λ (v : Bool). cond v (Some Mirror) None) m;
  end = ends_behind slot needs due e (apart g);
}
behind_moves slot needs due e m (close all f z g) = record {
  t =
      ap (λ (d : Due). step d T) g
      ∙ (ap (λ (v : Bool). cond v None (behind slot T)) z ∙ ap (λ (v : Bool). cond v (Some (Number FirstMove)) None) m);
  r =
      ap (λ (d : Due). step d R) g
      ∙ (ap (λ (v : Bool). cond v None (behind slot R)) z ∙ ap (λ (v : Bool). cond v (Some (Number FirstMove)) None) m);
  m = ap (λ (d : Due). step d M) g ∙ (ap (λ (v : Bool). cond v None (behind slot M)) z ∙ ap (λ (v : Bool). cond v (Some Mirror) None) m);
  end = ends_behind slot needs due e (close all f z g);
}

mirrored_moves : CanMove Moves
mirrored_moves = record { t = refl; r = refl; m = refl; end = refl }

-- blanks are needed behind no number that letters or nothing follow
no_number : (z : ℤ) (moves : List CifMove) → needs_blank (Signed z) (flat_map move_parts moves) ≡ false
no_number z [] = refl
no_number z (Translates x y ∷ moves) = refl
no_number z (MirrorsX ∷ moves) = refl
no_number z (MirrorsY ∷ moves) = refl
no_number z (Rotates a b ∷ moves) = refl

two_numbers : (due : Due) (word : List ℕ) (x y : ℤ) (moves : List CifMove) (bytes : List ℕ) → along due word ≡ Some (Number FirstMove)
    → SpellsParts (Letters word ∷ Signed x ∷ Signed y ∷ flat_map move_parts moves) bytes
    → (next : Due) × CanMove next × (rest : List ℕ) × SpellsParts (flat_map move_parts moves) rest
    × ((tail : List ℕ) → along due (bytes ++ tail) ≡ along next (rest ++ tail))
two_numbers due word x y moves bytes w s =
    let l = letter_run due (Number FirstMove) word false _ bytes w refl s in
    let a = part_run FirstMove (Number FirstMove) (Signed x) true _ l.rest (inl refl) refl l.more in
    let b = part_run SecondMove a.next (Signed y) _ _ a.rest (starts_next FirstMove SecondMove true a.next refl refl a.behind) refl a.more in
    (b.next, behind_moves SecondMove _ b.next refl refl b.behind, b.rest, b.more, λ tail. l.run tail ∙ (a.run tail ∙ b.run tail))

mirror_run : (due : Due) (word : List ℕ) (moves : List CifMove) (bytes : List ℕ) → CanMove due → along Mirror word ≡ Some Moves
    → SpellsParts (Letters (codes "M") ∷ Letters word ∷ flat_map move_parts moves) bytes
    → (rest : List ℕ) × SpellsParts (flat_map move_parts moves) rest × ((tail : List ℕ) → along due (bytes ++ tail) ≡ along Moves (rest ++ tail))
mirror_run due word moves bytes c w s =
    let l = letter_run due Mirror (codes "M") false _ bytes (along_step due Mirror 77 [] c.m) refl s in
    let k = letter_run Mirror Moves word _ _ l.rest w refl l.more in
    (k.rest, k.more, λ tail. l.run tail ∙ k.run tail)

pub moves_run : (due : Due) (moves : List CifMove) (bytes : List ℕ) → CanMove due → SpellsParts (flat_map move_parts moves) bytes
    → along due (bytes ++ codes ";") ≡ Some Whole
moves_run due [] bytes c s = nothing_left due bytes s c.end
moves_run due (Translates x y ∷ moves) bytes c s =
    let r = two_numbers due (codes "T") x y moves bytes (along_step due (Number FirstMove) 84 [] c.t) s in
    r.4 (codes ";") ∙ moves_run r.0 moves r.2 r.1 r.3
moves_run due (Rotates a b ∷ moves) bytes c s =
    let r = two_numbers due (codes "R") a b moves bytes (along_step due (Number FirstMove) 82 [] c.r) s in
    r.4 (codes ";") ∙ moves_run r.0 moves r.2 r.1 r.3
moves_run due (MirrorsX ∷ moves) bytes c s =
    let r = mirror_run due (codes "X") moves bytes c refl s in r.2 (codes ";") ∙ moves_run Moves moves r.0 mirrored_moves r.1
moves_run due (MirrorsY ∷ moves) bytes c s =
    let r = mirror_run due (codes "Y") moves bytes c refl s in r.2 (codes ";") ∙ moves_run Moves moves r.0 mirrored_moves r.1

-- ---- names, comments and extensions

abbrev is_name_byte : ℕ → Bool
is_name_byte b = is_capital b || is_digit b

-- a blank closes, and the semicolon ends
record Closes_at (due : Due) : Type 0 where
  blank : step due Blank ≡ Some Closed
  semicolon : step due Semicolon ≡ Some Whole

closed_run : (due : Due) (gap : List ℕ) → Closes_at due → AreCifBlanks gap → along due (gap ++ codes ";") ≡ Some Whole
closed_run due [] c h = along_step due Whole 59 [] c.semicolon
closed_run due (b ∷ bs) c h =
    let f = all_first is_cif_blank b bs h in
    along_step due Closed b (bs ++ codes ";") (ap (step due) (blank_kind b f.0) ∙ c.blank)
    ∙ along_then Closed Closed bs (codes ";") (blanks_stay Closed bs refl f.1)

named_step : (more : Due) (b : ℕ) → (is_capital b || is_digit b) ≡ true → named more (kind_of b) ≡ Some more
named_step more b h = ap (λ (v : Bool). cond v (Some more) (closed (kind_of b))) (name_kind b h)

layer_step : (kind : Kind) → is_name_kind kind ≡ true → step Layer kind ≡ Some OneByte
layer_step Blank h = absurd cc
layer_step kind h = ap (λ (v : Bool). cond v (Some OneByte) None) h

name_run : (name : List ℕ) → IsShortName name → (due : Due) × (along Layer name ≡ Some due) × Closes_at due
name_run [] h = absurd (h.some refl)
name_run (a ∷ []) h =
    let f = all_first is_name_byte a [] h.bytes in (OneByte, along_step Layer OneByte a [] (layer_step (kind_of a) (name_kind a f.0)), record { blank = refl; semicolon = refl })
name_run (a ∷ b ∷ []) h =
    let f = all_first is_name_byte a (b ∷ []) h.bytes in
    let g = all_first is_name_byte b [] f.1 in (
      TwoBytes,
      along_step Layer OneByte a (b ∷ []) (layer_step (kind_of a) (name_kind a f.0)) ∙ along_step OneByte TwoBytes b [] (named_step TwoBytes b g.0),
      record { blank = refl; semicolon = refl },
    )
name_run (a ∷ b ∷ c ∷ []) h =
    let f = all_first is_name_byte a (b ∷ c ∷ []) h.bytes in
    let g = all_first is_name_byte b (c ∷ []) f.1 in
    let i = all_first is_name_byte c [] g.1 in (
      ThreeBytes,
      along_step Layer OneByte a (b ∷ c ∷ []) (layer_step (kind_of a) (name_kind a f.0))
          ∙ (along_step OneByte TwoBytes b (c ∷ []) (named_step TwoBytes b g.0) ∙ along_step TwoBytes ThreeBytes c [] (named_step ThreeBytes c i.0)),
      record { blank = refl; semicolon = refl },
    )
name_run (a ∷ b ∷ c ∷ d ∷ []) h =
    let f = all_first is_name_byte a (b ∷ c ∷ d ∷ []) h.bytes in
    let g = all_first is_name_byte b (c ∷ d ∷ []) f.1 in
    let i = all_first is_name_byte c (d ∷ []) g.1 in
    let j = all_first is_name_byte d [] i.1 in (
      FourBytes,
      along_step Layer OneByte a (b ∷ c ∷ d ∷ []) (layer_step (kind_of a) (name_kind a f.0))
          ∙ (along_step OneByte TwoBytes b (c ∷ d ∷ []) (named_step TwoBytes b g.0) ∙ (along_step TwoBytes ThreeBytes c (d ∷ []) (named_step ThreeBytes c i.0)
          ∙ along_step ThreeBytes FourBytes d [] (named_step FourBytes d j.0))),
      record { blank = refl; semicolon = refl },
    )
name_run (a ∷ b ∷ c ∷ d ∷ e ∷ l) h = absurd (omega (arith, h.few))

pub quiet : (n : ℕ) (kind : Kind) → (kind ≡ Open → ⊥) → (kind ≡ Close → ⊥) → comment n kind ≡ Comment n
quiet n Open o c = absurd (o refl)
quiet n Close o c = absurd (c refl)
quiet n kind o c = refl

pub not_open : (b : ℕ) → b ≢ 40 → kind_of b ≡ Open → ⊥
not_open b h e = let P : Kind → Type 0 = λ k. IsOfKind k b in h (subst P e (of_kind b)).0

pub not_close : (b : ℕ) → b ≢ 41 → kind_of b ≡ Close → ⊥
not_close b h e = let P : Kind → Type 0 = λ k. IsOfKind k b in h (subst P e (of_kind b)).0

pub not_semicolon : (b : ℕ) → (b == 59) ≡ false → kind_of b ≡ Semicolon → ⊥
not_semicolon b h e =
    let P : Kind → Type 0 = λ k. IsOfKind k b in
    let z : false ≡ true = sym h ∙ ap (λ (n : ℕ). n == 59) (subst P e (of_kind b)).0 in cc

nested_run : (n : ℕ) (bytes : List ℕ) → IsNested bytes → along (Comment (suc n)) bytes ≡ Some (Comment (suc n))
nested_run n bytes (IsNested.none _ e) = ap (along (Comment (suc n))) e
nested_run n bytes (IsNested.other _ b rest e o c h) =
    ap (along (Comment (suc n))) e
    ∙ (along_step (Comment (suc n)) (Comment (suc n)) b rest (ap Some (quiet (suc n) (kind_of b) (not_open b o) (not_close b c))) ∙ nested_run n rest h)
nested_run n bytes (IsNested.pair _ inner rest e h k) =
    ap (along (Comment (suc n))) e
    ∙ (along_step (Comment (suc n)) (Comment (suc (suc n))) 40 (inner ++ 41 ∷ rest) refl
    ∙ (along_then (Comment (suc (suc n))) (Comment (suc (suc n))) inner (41 ∷ rest) (nested_run (suc n) inner h)
    ∙ (along_step (Comment (suc (suc n))) (Comment (suc n)) 41 rest refl ∙ nested_run n rest k)))

pub spoken : (kind : Kind) → (kind ≡ Semicolon → ⊥) → text kind ≡ Text
spoken Semicolon h = absurd (h refl)
spoken kind h = refl

text_run : (bytes : List ℕ) → list_all (λ b. not (b == 59)) bytes ≡ true → along Text bytes ≡ Some Text
text_run [] h = refl
text_run (b ∷ bs) h =
    let f = all_first (λ (n : ℕ). not (n == 59)) b bs h in
    along_step Text Text b bs (ap Some (spoken (kind_of b) (not_semicolon b (un (b == 59) f.0)))) ∙ text_run bs f.1
  where
    un : (t : Bool) → not t ≡ true → t ≡ false
    un true e = absurd cc
    un false e = refl

-- ---- commands

box_run : (direction : Option Point) (needs : Bool) (due : Due) (bytes : List ℕ) → needs ≡ needs_blank (Signed (pos 0)) (direction_parts direction)
    → Behind CentreY needs due → SpellsParts (direction_parts direction) bytes → along due (bytes ++ codes ";") ≡ Some Whole
box_run None needs due bytes e b s = nothing_left due bytes s (ends_behind CentreY needs due refl b)
box_run (Some p) needs due bytes e b s =
    let x = part_run DirectionX due (Signed p.x) true _ bytes (starts_next CentreY DirectionX needs due e refl b) refl s in
    let y = part_run DirectionY x.next (Signed p.y) false _ x.rest (starts_next DirectionX DirectionY true x.next refl refl x.behind) refl x.more in
    x.run (codes ";") ∙ (y.run (codes ";") ∙ nothing_left y.next y.rest y.more (ends_behind DirectionY false y.next refl y.behind))

needs_same : (y : ℤ) (direction : Option Point) → needs_blank (Signed y) (direction_parts direction) ≡ needs_blank (Signed (pos 0)) (direction_parts direction)
needs_same y None = refl
needs_same y (Some p) = refl

no_number_behind : (n : ℕ) (moves : List CifMove) → needs_blank (Unsigned n) (flat_map move_parts moves) ≡ false
no_number_behind n [] = refl
no_number_behind n (Translates x y ∷ moves) = refl
no_number_behind n (MirrorsX ∷ moves) = refl
no_number_behind n (MirrorsY ∷ moves) = refl
no_number_behind n (Rotates a b ∷ moves) = refl

unscaled : (n : ℕ) → false ≡ true → n ≢ 0
unscaled n e f = cc

pub command_run : (c : CifCommand) (bytes : List ℕ) → SpellsCommand c bytes → along First (bytes ++ codes ";") ≡ Some Whole
command_run Empty bytes s = nothing_left First bytes s.1 refl
command_run CifCommand.Comment bytes s =
    ap (λ (l : List ℕ). along First (l ++ codes ";")) s.is
    ∙ (along_step First (Comment 1) 40 ((s.text ++ 41 ∷ s.gap) ++ codes ";") refl
    ∙ (ap (along (Comment 1)) (append_assoc s.text (41 ∷ s.gap) (codes ";"))
    ∙ (along_then (Comment 1) (Comment 1) s.text (41 ∷ s.gap ++ codes ";") (nested_run 0 s.text s.nested)
    ∙ (along_step (Comment 1) Closed 41 (s.gap ++ codes ";") refl ∙ closed_run Closed s.gap (record { blank = refl; semicolon = refl }) s.blanks))))
command_run (Opens n None) bytes s =
    let l = letter_run First (Number Symbol) (codes "DS") false _ bytes refl refl s.1 in
    let a = part_run Symbol (Number Symbol) (Unsigned n) false _ l.rest (inl refl) (refl, unscaled n) l.more in
    l.run (codes ";") ∙ (a.run (codes ";") ∙ nothing_left a.next a.rest a.more (ends_behind Symbol false a.next refl a.behind))
command_run (Opens n (Some scale)) bytes s =
    let l = letter_run First (Number Symbol) (codes "DS") false _ bytes refl refl s.1 in
    let a = part_run Symbol (Number Symbol) (Unsigned n) true _ l.rest (inl refl) (refl, unscaled n) l.more in
    let b = part_run Times a.next (Unsigned scale.times) true _ a.rest (starts_next Symbol Times true a.next refl refl a.behind) (refl, λ e. s.0.0) a.more in
    let c = part_run Per b.next (Unsigned scale.per) false _ b.rest (starts_next Times Per true b.next refl refl b.behind) (refl, λ e. s.0.1) b.more in
    l.run (codes ";") ∙ (a.run (codes ";") ∙ (b.run (codes ";") ∙ (c.run (codes ";")
    ∙ nothing_left c.next c.rest c.more (ends_behind Per false c.next refl c.behind))))
command_run Closes bytes s =
    let l = letter_run First Closed (codes "DF") false _ bytes refl refl s.1 in l.run (codes ";") ∙ nothing_left Closed l.rest l.more refl
command_run (CallsSymbol n moves) bytes s =
    let l = letter_run First (Number Called) (codes "C") false _ bytes refl refl s.1 in
    let a = part_run Called (Number Called) (Unsigned n) _ _ l.rest (inl refl) (refl, unscaled n) l.more in
    l.run (codes ";") ∙ (a.run (codes ";") ∙ moves_run a.next moves a.rest (behind_moves Called _ a.next refl refl a.behind) a.more)
command_run (SetsLayer name) bytes s =
    let l = letter_run First Layer (codes "L") false _ bytes refl refl s.1 in
    let p = l.more in
    let d = name_run name s.0 in
    l.run (codes ";") ∙ (ap (λ (t : List ℕ). along Layer (t ++ codes ";")) p.is
    ∙ (ap (along Layer) (three p.word p.gap p.rest (codes ";"))
    ∙ (along_then Layer d.0 p.word (p.gap ++ (p.rest ++ codes ";")) (ap (along Layer) p.spelled ∙ d.1)
    ∙ (ap (λ (t : List ℕ). along d.0 (p.gap ++ (t ++ codes ";"))) p.more ∙ closed_run d.0 p.gap d.2 p.blanks))))
command_run (DrawsBox along_side across centre direction) bytes s =
    let l = letter_run First (Number Length) (codes "B") false _ bytes refl refl s.1 in
    let a = part_run Length (Number Length) (Unsigned along_side) true _ l.rest (inl refl) (refl, unscaled along_side) l.more in
    let b = part_run Width a.next (Unsigned across) true _ a.rest (starts_next Length Width true a.next refl refl a.behind) (refl, unscaled across) a.more in
    let x = part_run CentreX b.next (Signed centre.x) true _ b.rest (starts_next Width CentreX true b.next refl refl b.behind) refl b.more in
    let y = part_run CentreY x.next (Signed centre.y) _ _ x.rest (starts_next CentreX CentreY true x.next refl refl x.behind) refl x.more in
    l.run (codes ";") ∙ (a.run (codes ";") ∙ (b.run (codes ";") ∙ (x.run (codes ";") ∙ (y.run (codes ";")
    ∙ box_run direction _ y.next y.rest (needs_same centre.y direction) y.behind y.more))))
command_run (DrawsPolygon []) bytes s = absurd (s.0 refl)
command_run (DrawsPolygon (p ∷ ps)) bytes s =
    let l = letter_run First (Number PointX) (codes "P") false _ bytes refl refl s.1 in
    l.run (codes ";") ∙ points_run (Number PointX) p ps l.rest (inl refl) l.more
command_run (DrawsWire width []) bytes s = absurd (s.0 refl)
command_run (DrawsWire width (p ∷ ps)) bytes s =
    let l = letter_run First (Number Wire) (codes "W") false _ bytes refl refl s.1 in
    let a = part_run Wire (Number Wire) (Unsigned width) true _ l.rest (inl refl) (refl, unscaled width) l.more in
    l.run (codes ";") ∙ (a.run (codes ";") ∙ points_run a.next p ps a.rest (starts_next Wire PointX true a.next refl refl a.behind) a.more)
command_run (Extension text) bytes s = extension_run bytes (let P : List ℕ → Type 0 = IsExtension in subst P (sym s.0) s.1)
  where
    first_digit : (b : ℕ) → is_digit b ≡ true → step First (kind_of b) ≡ Some Text
    first_digit b h = elim (digit_kind b h) [ inl k ↦ ap (step First) k.0 | inr k ↦ ap (step First) k.0 ]

    extension_run : (l : List ℕ) → IsExtension l → along First (l ++ codes ";") ≡ Some Whole
    extension_run [] h = absurd h
    extension_run (b ∷ bs) h =
        along_step First Text b (bs ++ codes ";") (first_digit b h.0) ∙ along_then Text Text bs (codes ";") (text_run bs h.1)

pub sentence_run : (bytes : List ℕ) → IsSentence bytes → along First bytes ≡ Some Whole
sentence_run bytes (IsSentence.command _ text c e s) = ap (along First) e ∙ command_run c text s
sentence_run bytes (IsSentence.end _ e) = ap (along First) e
sentence_run bytes (IsSentence.outside _ (inl e)) = ap (along First) e
sentence_run bytes (IsSentence.outside _ (inr e)) = ap (along First) e
