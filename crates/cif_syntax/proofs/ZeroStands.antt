-- A number of a scale that is 0 stands in the text; and how digits that are all 0 come about.
use Rattle.std.proofs.Common.{◌≡◌, ◌≢◌, ◌⊎◌, inl, inr, ℕ, zero, suc, ◌≤◌, Bool, true, false, cond, ◌&&◌, List, [], ◌∷◌, ◌++◌, length, Option, Some, None, codes, refl, sym, ◌∙◌, ap, subst, arith}
use Rattle.std.specs.List.{list_all, take_while}
use Rattle.std.proofs.lemmas.List.{append-nil, length-append}
use Rattle.std.proofs.lemmas.List.Sums.{take_while-cons}
use Rattle.rx_text.specs.NumberInText.{is_digit}
use Rattle.geom.specs.CifCommands.{CifPart, Letters, Unsigned, Signed, SpellsParts, WritesNumber}
use Rattle.geom.specs.CifRefusals.{ScaleIsZero}
use Rattle.cif_syntax.specs.declared.kind.Kind.{Kind}
use Rattle.cif_syntax.specs.declared.kind.Kind.TheVariants.{Blank, Zero, Digit, Minus, Open, Close, Semicolon, T, R, M}
use Rattle.cif_syntax.specs.declared.slot.Slot.{Slot}
use Rattle.cif_syntax.specs.declared.slot.Slot.TheVariants.{Symbol, Times, FirstMove, SecondMove}
use Rattle.cif_syntax.specs.declared.due.Due.{Due}
use Rattle.cif_syntax.specs.declared.due.Due.TheVariants.{First, Definition, Comment, Closed, Text, Layer, OneByte, TwoBytes, ThreeBytes, FourBytes, Number, Sign, Digits, Gap, Moves, Mirror, Whole}
use Rattle.cif_syntax.specs.Slots.{next_slot, is_signed, may_end, may_move, is_scale}
use Rattle.cif_syntax.specs.Machine.{step, along, first, definition, comment, closed, text, layer, named, number, begin, digit, digits, behind, behind_digits, begin_next, gap, moves, mirror, depth_of}
use Rattle.cif_syntax.proofs.Alongs.{all_first, are_zeros, zero_value}
use Rattle.cif_syntax.proofs.Accepting.{FitsSlot}
use Rattle.cif_syntax.proofs.Comments.{Unclosed}
use Rattle.cif_syntax.proofs.Reading.{parts_at, spells_at, push_same}
use Rattle.cif_syntax.proofs.Stepping.{HasRead, InGap, none_same, some_same}
use Rattle.cif_syntax.proofs.NumberSteps.{reads_on}

-- no digit stands first
abbrev pub NoDigit : List ℕ → Type 0
NoDigit [] = Unit {0}
NoDigit (c ∷ cs) = is_digit c ≡ false

take_digits : (ds tail : List ℕ) → list_all is_digit ds ≡ true → NoDigit tail → take_while is_digit (ds ++ tail) ≡ ds
take_digits [] [] h n = refl
take_digits [] (c ∷ cs) h n = take_while-cons is_digit c cs ∙ ap (λ (v : Bool). cond v (c ∷ take_while is_digit cs) []) n
take_digits (d ∷ ds) tail h n =
    let f = all_first is_digit d ds h in
    take_while-cons is_digit d (ds ++ tail)
    ∙ (ap (λ (v : Bool). cond v (d ∷ take_while is_digit (ds ++ tail)) []) f.0 ∙ ap (λ (l : List ℕ). d ∷ l) (take_digits ds tail f.1 n))

-- whether a slot that may follow is one of a scale
scale_next : Option Slot → Bool
scale_next None = false
scale_next (Some slot) = is_scale slot

-- the parts before the number of a scale
record ScaleParts (front : List ℕ) : Type 0 where
  n : ℕ
  before : List CifPart
  scale : (before ≡ []) ⊎ ((times : ℕ) × (before ≡ Unsigned times ∷ []))
  spelled : SpellsParts (Letters (codes "DS") ∷ Unsigned n ∷ before) front

parts_read : (r s : Slot) (front : List ℕ) → next_slot r ≡ Some s → is_scale s ≡ true → InGap r front → ScaleParts front
unfolding scale_next
parts_read Symbol s front e c g = by g.part g.fits g.begun (g.ended [] [] [] refl refl)
  where
    by : (p : CifPart) → FitsSlot Symbol p → g.ps ≡ Letters (codes "DS") ∷ [] → SpellsParts ((g.ps ++ p ∷ []) ++ []) (front ++ []) → ScaleParts front
    by (Letters w) f b t = absurd f
    by (Signed z) f b t = absurd cc
    by (Unsigned n) f b t = record {
      n = n;
      before = [];
      scale = inl refl;
      spelled = parts_at ((g.ps ++ Unsigned n ∷ []) ++ []) _ front (append-nil (g.ps ++ Unsigned n ∷ []) ∙ push_same g.ps _ _ b)
          (spells_at ((g.ps ++ Unsigned n ∷ []) ++ []) (front ++ []) front (append-nil front) t);
    }
parts_read Times s front e c g = by g.part g.fits g.begun.0 g.begun.1 (g.ended [] [] [] refl refl)
  where
    by : (p : CifPart) → FitsSlot Times p → (n : ℕ) → g.ps ≡ Letters (codes "DS") ∷ Unsigned n ∷ [] → SpellsParts ((g.ps ++ p ∷ []) ++ []) (front ++ [])
        → ScaleParts front
    by (Letters w) f n b t = absurd f
    by (Signed z) f n b t = absurd cc
    by (Unsigned a) f n b t = record {
      n = n;
      before = Unsigned a ∷ [];
      scale = inr (a, refl);
      spelled = parts_at ((g.ps ++ Unsigned a ∷ []) ++ []) _ front (append-nil (g.ps ++ Unsigned a ∷ []) ∙ push_same g.ps _ _ b)
          (spells_at ((g.ps ++ Unsigned a ∷ []) ++ []) (front ++ []) front (append-nil front) t);
    }
parts_read r s front e c g = absurd (let h : scale_next (next_slot r) ≡ true = ap scale_next e ∙ c in cc)

pub zero_stands : (front : List ℕ) (r s : Slot) (ds tail : List ℕ) → along First front ≡ Some (Gap r) → next_slot r ≡ Some s → is_scale s ≡ true → ds ≢ []
    → list_all is_digit ds ≡ true → are_zeros ds ≡ true → NoDigit tail → ScaleIsZero front (ds ++ tail)
zero_stands front r s ds tail led e c some are zeros n =
    let g : InGap r front = reads_on First (Gap r) [] front refl led in
    let p = parts_read r s front e c g in
    let P : List ℕ → Type 0 = λ l. WritesNumber 0 l in
    record {
      n = p.n;
      before = p.before;
      scale = p.scale;
      spelled = p.spelled;
      bytes = g.before;
      blank = g.blank;
      apart = g.apart;
      is_blank = g.is_blank;
      zero = subst P (sym (take_digits ds tail are n)) (record { some = some; digits = are; value = zero_value 0 ds are refl zeros });
    }

-- ---- how digits that are all 0 come about

-- the state before
pub data ZeroFrom (s : Slot) (due : Due) : Type 0 where
  from_digits : due ≡ Digits s true → ZeroFrom s due
  from_number : due ≡ Number s → ZeroFrom s due
  from_sign : due ≡ Sign s → ZeroFrom s due
  from_gap : (r : Slot) → due ≡ Gap r → next_slot r ≡ Some s → ZeroFrom s due

digit_zero : (s slot : Slot) (all : Bool) (kind : Kind) → digit slot all kind ≡ Some (Digits s true) → (kind ≡ Zero) × (all ≡ true) × (slot ≡ s)
digit_zero s slot all Zero e = let f : ◌≡◌ {A = Due} (Digits slot all) (Digits s true) = some_same e in (refl, cc, cc)
digit_zero s slot all Digit e = let f : ◌≡◌ {A = Due} (Digits slot false) (Digits s true) = some_same e in absurd cc
digit_zero s slot all kind e = absurd (none_same e)

sign_never : (s slot : Slot) (t : Bool) → cond t (Some (Sign slot)) None ≡ Some (Digits s true) → ⊥
sign_never s slot true e = let f : ◌≡◌ {A = Due} (Sign slot) (Digits s true) = some_same e in cc
sign_never s slot false e = none_same e

begin_zero : (s slot : Slot) (kind : Kind) → begin slot kind ≡ Some (Digits s true) → (kind ≡ Zero) × (slot ≡ s)
begin_zero s slot Minus e = absurd (sign_never s slot (is_signed slot) e)
begin_zero s slot kind e = let f = digit_zero s slot true kind e in (f.0, f.2)

cond_never : (s : Slot) (t : Bool) (due : Due) → (due ≡ Digits s true → ⊥) → cond t (Some due) None ≡ Some (Digits s true) → ⊥
cond_never s true due n e = n (some_same e)
cond_never s false due n e = none_same e

behind_never : (s slot : Slot) (kind : Kind) → behind slot kind ≡ Some (Digits s true) → ⊥
behind_never s slot Semicolon e = cond_never s (may_end slot) Whole (λ f. cc) e
behind_never s slot T e = cond_never s (may_move slot) (Number FirstMove) (λ f. cc) e
behind_never s slot R e = cond_never s (may_move slot) (Number FirstMove) (λ f. cc) e
behind_never s slot M e = cond_never s (may_move slot) Mirror (λ f. cc) e
behind_never s slot kind e = none_same e

end_never : (s slot : Slot) (kind : Kind) → behind_digits slot kind ≡ Some (Digits s true) → ⊥
end_never s slot Blank e = let f : ◌≡◌ {A = Due} (Gap slot) (Digits s true) = some_same e in cc
end_never s slot kind e = behind_never s slot kind e

spared_never : (s slot : Slot) (t : Bool) (kind : Kind) → cond t None (behind_digits slot kind) ≡ Some (Digits s true) → ⊥
spared_never s slot true kind e = none_same e
spared_never s slot false kind e = end_never s slot kind e

next_zero : (s r : Slot) (kind : Kind) → begin_next (next_slot r) kind ≡ Some (Digits s true) → (kind ≡ Zero) × (next_slot r ≡ Some s)
next_zero s r kind e = by (next_slot r) refl e
  where
    by : (o : Option Slot) → next_slot r ≡ o → begin_next o kind ≡ Some (Digits s true) → (kind ≡ Zero) × (next_slot r ≡ Some s)
    by None n e = absurd (none_same e)
    by (Some t) n e = let f = begin_zero s t kind e in (f.0, n ∙ ap (λ (v : Slot). Some v) f.1)

first_never : (s : Slot) (kind : Kind) → first kind ≡ Some (Digits s true) → ⊥
first_never s Semicolon e = cc
first_never s kind e = cc

definition_never : (s : Slot) (kind : Kind) → definition kind ≡ Some (Digits s true) → ⊥
definition_never s Semicolon e = cc
definition_never s kind e = cc

comment_never : (s : Slot) (n : ℕ) (kind : Kind) → Some (comment n kind) ≡ Some (Digits s true) → ⊥
comment_never s zero Close e = cc
comment_never s (suc zero) Close e = cc
comment_never s (suc (suc n)) Close e = cc
comment_never s n kind e = cc

closed_never : (s : Slot) (kind : Kind) → closed kind ≡ Some (Digits s true) → ⊥
closed_never s Semicolon e = cc
closed_never s kind e = cc

text_never : (s : Slot) (kind : Kind) → Some (text kind) ≡ Some (Digits s true) → ⊥
text_never s Semicolon e = cc
text_never s kind e = cc

layer_never : (s : Slot) (kind : Kind) → layer kind ≡ Some (Digits s true) → ⊥
layer_never s Semicolon e = cc
layer_never s kind e = cc

named_never : (s : Slot) (more : Due) (kind : Kind) → (more ≡ Digits s true → ⊥) → named more kind ≡ Some (Digits s true) → ⊥
named_never s more Blank n e = cc
named_never s more Semicolon n e = cc
named_never s more Minus n e = none_same e
named_never s more Open n e = none_same e
named_never s more Close n e = none_same e
named_never s more kind n e = n (some_same e)

moves_never : (s : Slot) (kind : Kind) → moves kind ≡ Some (Digits s true) → ⊥
moves_never s Blank e = cc
moves_never s kind e = behind_never s SecondMove kind e

mirror_never : (s : Slot) (kind : Kind) → mirror kind ≡ Some (Digits s true) → ⊥
mirror_never s Semicolon e = cc
mirror_never s kind e = cc

number_zero : (s slot : Slot) (kind : Kind) → number slot kind ≡ Some (Digits s true) → (kind ≡ Zero) × (slot ≡ s)
number_zero s slot Blank e = absurd (let f : ◌≡◌ {A = Due} (Number slot) (Digits s true) = some_same e in cc)
number_zero s slot kind e = begin_zero s slot kind e

digits_zero : (s slot : Slot) (all : Bool) (kind : Kind) → digits slot all kind ≡ Some (Digits s true) → (kind ≡ Zero) × (all ≡ true) × (slot ≡ s)
digits_zero s slot all Zero e = let f : ◌≡◌ {A = Due} (Digits slot all) (Digits s true) = some_same e in (refl, cc, cc)
digits_zero s slot all Digit e = let f : ◌≡◌ {A = Due} (Digits slot false) (Digits s true) = some_same e in absurd cc
digits_zero s slot all kind e = absurd (spared_never s slot (all && is_scale slot) kind e)

gap_zero : (s slot : Slot) (kind : Kind) → gap slot kind ≡ Some (Digits s true) → (kind ≡ Zero) × (next_slot slot ≡ Some s)
gap_zero s slot Blank e = absurd (let f : ◌≡◌ {A = Due} (Gap slot) (Digits s true) = some_same e in cc)
gap_zero s slot Zero e = next_zero s slot Zero e
gap_zero s slot Digit e = next_zero s slot Digit e
gap_zero s slot Minus e = next_zero s slot Minus e
gap_zero s slot kind e = absurd (behind_never s slot kind e)

pub zero_from : (s : Slot) (due : Due) (kind : Kind) → step due kind ≡ Some (Digits s true) → (kind ≡ Zero) × ZeroFrom s due
zero_from s First kind e = absurd (first_never s kind e)
zero_from s Definition kind e = absurd (definition_never s kind e)
zero_from s (Comment n) kind e = absurd (comment_never s n kind e)
zero_from s Closed kind e = absurd (closed_never s kind e)
zero_from s Text kind e = absurd (text_never s kind e)
zero_from s Layer kind e = absurd (layer_never s kind e)
zero_from s OneByte kind e = absurd (named_never s TwoBytes kind (λ f. cc) e)
zero_from s TwoBytes kind e = absurd (named_never s ThreeBytes kind (λ f. cc) e)
zero_from s ThreeBytes kind e = absurd (named_never s FourBytes kind (λ f. cc) e)
zero_from s FourBytes kind e = absurd (closed_never s kind e)
zero_from s (Number slot) kind e = let f = number_zero s slot kind e in (f.0, from_number (ap (λ (v : Slot). Number v) f.1))
zero_from s (Sign slot) kind e = let f = digit_zero s slot true kind e in (f.0, from_sign (ap (λ (v : Slot). Sign v) f.2))
zero_from s (Digits slot all) kind e =
    let f = digits_zero s slot all kind e in
    (f.0, from_digits (ap (λ (v : Slot). Digits v all) f.2 ∙ ap (λ (v : Bool). Digits s v) f.1))
zero_from s (Gap slot) kind e = let f = gap_zero s slot kind e in (f.0, from_gap slot refl f.1)
zero_from s Moves kind e = absurd (moves_never s kind e)
zero_from s Mirror kind e = absurd (mirror_never s kind e)
zero_from s Whole kind e = absurd (none_same e)

-- ---- how many parentheses are open

unclosed_length : (n : ℕ) (bytes : List ℕ) → Unclosed n bytes → n ≤ length bytes
unclosed_length zero bytes h = omega arith
unclosed_length (suc n) bytes h =
    let e : length bytes ≡ length (h.0 ++ 40 ∷ h.1) = ap length h.2 in
    omega (arith, e, length-append h.0 (40 ∷ h.1), unclosed_length n h.1 h.4)

pub depth_few : (due : Due) (bytes : List ℕ) → HasRead due bytes → depth_of due ≤ length bytes
depth_few (Comment zero) bytes h = absurd h
depth_few (Comment (suc n)) bytes h = let e : length bytes ≡ length (40 ∷ h.0) = ap length h.1 in omega (arith, e, unclosed_length n h.0 h.2)
depth_few due bytes h = omega arith
