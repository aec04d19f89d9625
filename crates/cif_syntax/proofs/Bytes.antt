-- What the kind of a byte says.
use Rattle.std.proofs.Common.{◌≡◌, ◌≢◌, ◌⊎◌, inl, inr, ℕ, ◌==◌, Bool, true, false, not, cond, ◌||◌, refl, sym, ◌∙◌, ap, subst, arith}
use Rattle.std.proofs.lemmas.Bool.Decides.{nat_tests}
use Rattle.rx_text.specs.NumberInText.{is_digit}
use Rattle.geom.specs.CifCommands.{is_capital, is_cif_blank}
use Rattle.cif_syntax.specs.declared.kind.Kind.{Kind}
use Rattle.cif_syntax.specs.declared.kind.Kind.TheVariants.{Blank, Zero, Digit, Minus, Open, Close, Semicolon, B, C, D, E, F, L, M, P, R, S, T, W, X, Y, Capital}
use Rattle.cif_syntax.specs.Kinds.{sign_of, kind_of, is_name_kind}

-- the byte of a sign or a letter; of other kinds any
abbrev pub IsByteOf : Kind → ℕ → Type 0
IsByteOf Minus byte = byte ≡ 45
IsByteOf Open byte = byte ≡ 40
IsByteOf Close byte = byte ≡ 41
IsByteOf Semicolon byte = byte ≡ 59
IsByteOf B byte = byte ≡ 66
IsByteOf C byte = byte ≡ 67
IsByteOf D byte = byte ≡ 68
IsByteOf E byte = byte ≡ 69
IsByteOf F byte = byte ≡ 70
IsByteOf L byte = byte ≡ 76
IsByteOf M byte = byte ≡ 77
IsByteOf P byte = byte ≡ 80
IsByteOf R byte = byte ≡ 82
IsByteOf S byte = byte ≡ 83
IsByteOf T byte = byte ≡ 84
IsByteOf W byte = byte ≡ 87
IsByteOf X byte = byte ≡ 88
IsByteOf Y byte = byte ≡ 89
IsByteOf Blank byte = ⊥
IsByteOf Zero byte = ⊥
IsByteOf Digit byte = ⊥
IsByteOf Capital byte = Unit {0}

pick : (t : Bool) (byte : ℕ) (k m : Kind) → (t ≡ true → IsByteOf k byte) → IsByteOf m byte → IsByteOf (cond t k m) byte
pick true byte k m h r = h refl
pick false byte k m h r = r

pub at : (byte n : ℕ) → (byte == n) ≡ true → byte ≡ n
at byte n h = grind (arith, nat_tests)

pub unlike : (byte n : ℕ) → (byte == n) ≡ false → byte ≢ n
unlike byte n h e = grind (arith, nat_tests)

sign_byte : (byte : ℕ) → IsByteOf (sign_of byte) byte
sign_byte byte =
    pick (byte == 45) byte Minus _ (at byte 45) (pick (byte == 40) byte Open _ (at byte 40) (pick (byte == 41) byte Close _ (at byte 41)
    (pick (byte == 59) byte Semicolon _ (at byte 59) (pick (byte == 66) byte B _ (at byte 66) (pick (byte == 67) byte C _ (at byte 67)
    (pick (byte == 68) byte D _ (at byte 68) (pick (byte == 69) byte E _ (at byte 69) (pick (byte == 70) byte F _ (at byte 70)
    (pick (byte == 76) byte L _ (at byte 76) (pick (byte == 77) byte M _ (at byte 77) (pick (byte == 80) byte P _ (at byte 80)
    (pick (byte == 82) byte R _ (at byte 82) (pick (byte == 83) byte S _ (at byte 83) (pick (byte == 84) byte T _ (at byte 84)
    (pick (byte == 87) byte W _ (at byte 87) (pick (byte == 88) byte X _ (at byte 88) (pick (byte == 89) byte Y Capital (at byte 89) tt)))))))))))))))))

-- what a byte of a kind is
abbrev pub IsOfKind : Kind → ℕ → Type 0
IsOfKind Blank byte = is_cif_blank byte ≡ true
IsOfKind Zero byte = (is_digit byte ≡ true) × (byte ≡ 48)
IsOfKind Digit byte = (is_digit byte ≡ true) × (byte ≢ 48)
IsOfKind kind byte = IsByteOf kind byte × (is_digit byte ≡ false) × (is_cif_blank byte ≡ false)

from_sign : (kind : Kind) (byte : ℕ) → IsByteOf kind byte → is_digit byte ≡ false → is_cif_blank byte ≡ false → IsOfKind kind byte
from_sign Blank byte h d b = absurd h
from_sign Zero byte h d b = absurd h
from_sign Digit byte h d b = absurd h
from_sign kind byte h d b = (h, d, b)

pub of_kind : (byte : ℕ) → IsOfKind (kind_of byte) byte
of_kind byte = by_digit (is_digit byte) refl
  where
    by_zero : (z : Bool) → (byte == 48) ≡ z → is_digit byte ≡ true → IsOfKind (cond z Zero Digit) byte
    by_zero true e d = (d, at byte 48 e)
    by_zero false e d = (d, unlike byte 48 e)

    by_blank : (b : Bool) → is_cif_blank byte ≡ b → is_digit byte ≡ false → IsOfKind (cond b Blank (sign_of byte)) byte
    by_blank true e d = e
    by_blank false e d = from_sign (sign_of byte) byte (sign_byte byte) d e

    by_digit : (d : Bool) → is_digit byte ≡ d → IsOfKind (cond d (cond (byte == 48) Zero Digit) (cond (is_cif_blank byte) Blank (sign_of byte))) byte
    by_digit true e = by_zero (byte == 48) refl e
    by_digit false e = by_blank (is_cif_blank byte) refl e

-- ---- the kind of a byte

-- the kind by whether the byte is a digit, and a blank
abbrev kind_by : Bool → Bool → ℕ → Kind
kind_by digit blank byte = cond digit (cond (byte == 48) Zero Digit) (cond blank Blank (sign_of byte))

no_digit : (d c m o p s : Bool) → not (d || c || m || o || p || s) ≡ true → d ≡ false
no_digit true c m o p s h = absurd (all c m o p s h)
  where
    all : (c m o p s : Bool) → not (true || c || m || o || p || s) ≡ true → ⊥
    all c m o p s h = cc
no_digit false c m o p s h = refl

pub blank_kind : (byte : ℕ) → is_cif_blank byte ≡ true → kind_of byte ≡ Blank
blank_kind byte h =
    let d : is_digit byte ≡ false = no_digit (is_digit byte) (is_capital byte) (byte == 45) (byte == 40) (byte == 41) (byte == 59) h in
    ap (λ (v : Bool). kind_by v (is_cif_blank byte) byte) d ∙ ap (λ (v : Bool). kind_by false v byte) h

pub digit_kind : (byte : ℕ) → is_digit byte ≡ true → ((kind_of byte ≡ Zero) × (byte ≡ 48)) ⊎ ((kind_of byte ≡ Digit) × (byte ≢ 48))
digit_kind byte h = by (byte == 48) refl
  where
    by : (z : Bool) → (byte == 48) ≡ z → ((kind_of byte ≡ Zero) × (byte ≡ 48)) ⊎ ((kind_of byte ≡ Digit) × (byte ≢ 48))
    by true e =
        inl (ap (λ (v : Bool). kind_by v (is_cif_blank byte) byte) h ∙ ap (λ (v : Bool). cond v Zero Digit) e, at byte 48 e)
    by false e =
        inr (ap (λ (v : Bool). kind_by v (is_cif_blank byte) byte) h ∙ ap (λ (v : Bool). cond v Zero Digit) e, unlike byte 48 e)

-- a byte of a name has such a kind, and the other way round
pub name_kind : (byte : ℕ) → (is_capital byte || is_digit byte) ≡ true → is_name_kind (kind_of byte) ≡ true
name_kind byte h = named (kind_of byte) (of_kind byte)
  where
    not_at : (n : ℕ) → (is_capital n || is_digit n) ≡ false → byte ≡ n → ⊥
    not_at n f e =
        let P : ℕ → Type 0 = λ v. (is_capital v || is_digit v) ≡ true in
        let z : false ≡ true = sym f ∙ subst P e h in cc

    not_blank : is_cif_blank byte ≡ true → ⊥
    not_blank b = both (is_digit byte) (is_capital byte) (byte == 45) (byte == 40) (byte == 41) (byte == 59) b h
      where
        both : (d c m o p s : Bool) → not (d || c || m || o || p || s) ≡ true → (c || d) ≡ true → ⊥
        both true true m o p s e f = no_one m o p s e
          where
            no_one : (m o p s : Bool) → not (true || true || m || o || p || s) ≡ true → ⊥
            no_one m o p s e = cc
        both true false m o p s e f = no_two m o p s e
          where
            no_two : (m o p s : Bool) → not (true || false || m || o || p || s) ≡ true → ⊥
            no_two m o p s e = cc
        both false true m o p s e f = no_three m o p s e
          where
            no_three : (m o p s : Bool) → not (false || true || m || o || p || s) ≡ true → ⊥
            no_three m o p s e = cc
        both false false m o p s e f = absurd cc

    named : (kind : Kind) → IsOfKind kind byte → is_name_kind kind ≡ true
    named Blank k = absurd (not_blank k)
    named Minus k = absurd (not_at 45 refl k.0)
    named Open k = absurd (not_at 40 refl k.0)
    named Close k = absurd (not_at 41 refl k.0)
    named Semicolon k = absurd (not_at 59 refl k.0)
    named kind k = refl

pub name_byte : (byte : ℕ) → is_name_kind (kind_of byte) ≡ true → (is_capital byte || is_digit byte) ≡ true
name_byte byte h = by (kind_of byte) refl (of_kind byte) h
  where
    right : (c d : Bool) → d ≡ true → (c || d) ≡ true
    right true d e = refl
    right false d e = e

    rest : (d c m o p s : Bool) → not (d || c || m || o || p || s) ≡ false → d ≡ false → m ≡ false → o ≡ false → p ≡ false → s ≡ false → (c || d) ≡ true
    rest d true m o p s e a b f g i = refl
    rest true false m o p s e a b f g i = refl
    rest false false true o p s e a b f g i = absurd cc
    rest false false false true p s e a b f g i = absurd cc
    rest false false false false true s e a b f g i = absurd cc
    rest false false false false false true e a b f g i = absurd cc
    rest false false false false false false e a b f g i = absurd cc

    apart : (m n : ℕ) → byte ≡ m → (m == n) ≡ false → (byte == n) ≡ false
    apart m n e f = let P : ℕ → Type 0 = λ v. (v == n) ≡ false in subst P (sym e) f

    letter : (m : ℕ) → byte ≡ m → (m == 45) ≡ false → (m == 40) ≡ false → (m == 41) ≡ false → (m == 59) ≡ false → is_digit byte ≡ false
        → is_cif_blank byte ≡ false → (is_capital byte || is_digit byte) ≡ true
    letter m e a b f g d bl =
        rest (is_digit byte) (is_capital byte) (byte == 45) (byte == 40) (byte == 41) (byte == 59) bl d (apart m 45 e a) (apart m 40 e b) (apart m 41 e f) (apart m 59 e g)

    no_sign : (n : ℕ) → kind_of byte ≡ Capital → (kind_of n ≡ Capital → ⊥) → (byte == n) ≡ false
    no_sign n e f = none (byte == n) refl
      where
        none : (t : Bool) → (byte == n) ≡ t → t ≡ false
        none true g = absurd (f (sym (ap kind_of (at byte n g)) ∙ e))
        none false g = refl

    by : (kind : Kind) → kind_of byte ≡ kind → IsOfKind kind byte → is_name_kind kind ≡ true → (is_capital byte || is_digit byte) ≡ true
    by Blank e k h = absurd cc
    by Minus e k h = absurd cc
    by Open e k h = absurd cc
    by Close e k h = absurd cc
    by Semicolon e k h = absurd cc
    by Zero e k h = right (is_capital byte) (is_digit byte) k.0
    by Digit e k h = right (is_capital byte) (is_digit byte) k.0
    by B e k h = letter 66 k.0 refl refl refl refl k.1 k.2
    by C e k h = letter 67 k.0 refl refl refl refl k.1 k.2
    by D e k h = letter 68 k.0 refl refl refl refl k.1 k.2
    by E e k h = letter 69 k.0 refl refl refl refl k.1 k.2
    by F e k h = letter 70 k.0 refl refl refl refl k.1 k.2
    by L e k h = letter 76 k.0 refl refl refl refl k.1 k.2
    by M e k h = letter 77 k.0 refl refl refl refl k.1 k.2
    by P e k h = letter 80 k.0 refl refl refl refl k.1 k.2
    by R e k h = letter 82 k.0 refl refl refl refl k.1 k.2
    by S e k h = letter 83 k.0 refl refl refl refl k.1 k.2
    by T e k h = letter 84 k.0 refl refl refl refl k.1 k.2
    by W e k h = letter 87 k.0 refl refl refl refl k.1 k.2
    by X e k h = letter 88 k.0 refl refl refl refl k.1 k.2
    by Y e k h = letter 89 k.0 refl refl refl refl k.1 k.2
    by Capital e k h =
        rest (is_digit byte) (is_capital byte) (byte == 45) (byte == 40) (byte == 41) (byte == 59) k.2 k.1 (no_sign 45 e (λ f. cc)) (no_sign 40 e (λ f. cc))
        (no_sign 41 e (λ f. cc)) (no_sign 59 e (λ f. cc))
