-- What stands behind the name of a pad, and its codes.
use Rattle.std.proofs.Common.{◌≡◌, ◌⊎◌, inl, inr, ℕ, suc, ◌+◌, ◌*◌, ◌^◌, ◌≤◌, ◌<◌, ◌==◌, Bool, true, false, cond, not, ◌&&◌, ◌||◌, ℤ, pos, negsuc, neg_ℤ, ◌*ℤ◌, ◌+ℤ◌, ◌<ℤ◌, int_rem, int_div, List, [], ◌∷◌, ◌++◌, length, codes, find, bytes_eq, Option, Some, None, IsSome, is_some, refl, sym, ◌∙◌, ap, subst, arith}
use Rattle.std.specs.Bool.{Decides}
use Rattle.std.specs.List.{list_all}
use Rattle.std.specs.Str.Parse.{digits_value}
use mir.Syntax.{w64}
use mir.Val.{to_z, of_z}
use Rattle.std.specs.Int.RustNames.{unsigned_abs}
use Rattle.std.proofs.lemmas.Bool.Decides.{Decides-eqb}
use Rattle.std.proofs.lemmas.Int.{to_z-of_z, fits_signed_from_abs}
use Rattle.std.proofs.lemmas.Slice.Eq.{bytes_eq-Decides}
use Rattle.rx_text.specs.NumberInText.{is_digit}
use Rattle.rx_text.specs.Role.{NamedRole}
use Rattle.rx_text.specs.declared.place.Place.{Place}
use Rattle.geom.specs.declared.layer.Layer.{Layer}
use Rattle.geom.specs.declared.layer.Layer.TheVariants.{Diffusion, Poly, Metal, Cut, Implant}
use Rattle.geom.specs.declared.chip.Label.{Label}
use Rattle.geom.specs.declared.point.Point.{Point}
use Rattle.geom.specs.declared.cif_code.CifCode.{CifCode}
use Rattle.geom.specs.declared.cif_code.CifCode.TheVariants.{C7, C8, C12}
use Rattle.geom.specs.CifCommands.{Extension, WritesNumber, WritesSigned, IsShortName, is_capital}
use Rattle.geom.specs.CifCodes.{SomeIs, IsOffGrid, IsTooGreat, MeetsCode, HasGreatNumber, LabelIsOffGrid, code_number}
use Rattle.geom.specs.CifLabels.{layer_word, layer_named, bears_labels, has_bytes, label_word, label_words, NamesPad, IsLabel}
use Rattle.geom.specs.CifDrawings.{CifState}
use Rattle.cif_values.specs.Numbers.{StandsFor}
use Rattle.cif_codes.specs.Least.{IsLeastCode}
use Rattle.cif_labels.specs.Words.{put_word}
use Rattle.cif_labels.specs.Spots.{Reads, bearing, layer_in, point_by, IsSpotOf}
use Rattle.cif_labels.specs.declared.spots.Spot.{Spot}

-- ---- numbers of words

digit_no_minus : (b : ℕ) → is_digit b ≡ true → b ≡ 45 → ⊥
digit_no_minus b h e = let P : ℕ → Type 0 = λ n. is_digit n ≡ true in let z : false ≡ true = subst P e h in cc

first_two : (a b : Bool) → (a && b) ≡ true → (a ≡ true) × (b ≡ true)
first_two true b e = (refl, e)
first_two false b e = absurd cc

plain_minus : (n : ℕ) (word digits : List ℕ) → WritesNumber n word → word ≡ 45 ∷ digits → ⊥
plain_minus n word digits w e =
    let P : List ℕ → Type 0 = λ l. list_all is_digit l ≡ true in
    digit_no_minus 45 (first_two (is_digit 45) (list_all is_digit digits) (subst P e w.digits)).0 refl

-- a word writes one number
pub same_number : (word : List ℕ) (a b : ℤ) → WritesSigned a word → WritesSigned b word → a ≡ b
same_number word a b (inl h) (inl k) = h.1 ∙ (ap pos (sym h.2.value ∙ k.2.value) ∙ sym k.1)
same_number word a b (inl h) (inr k) = absurd (plain_minus h.0 word k.1 h.2 k.3)
same_number word a b (inr h) (inl k) = absurd (plain_minus k.0 word h.1 k.2 h.3)
same_number word a b (inr h) (inr k) =
    let e : h.1 ≡ k.1 = ap tail (sym h.3 ∙ k.3) in
    h.2 ∙ (ap (λ (n : ℕ). neg_ℤ (pos n)) (sym h.4.value ∙ (ap (digits_value 10) e ∙ k.4.value)) ∙ sym k.2)
  where
    tail : List ℕ → List ℕ
    tail [] = []
    tail (x ∷ xs) = xs

pub no_number : (z : ℤ) → WritesSigned z [] → ⊥
no_number z (inl h) = h.2.some refl
no_number z (inr h) = absurd (let e : [] ≡ 45 ∷ h.1 = h.3 in cc)

-- ---- words and the list of them

-- where the first words are empty no word follows
pub great_words : (behind : List (List ℕ)) (spot : Spot) (a b : Bool) → (h : IsSpotOf behind spot) → Decides a ((z : ℤ) × WritesSigned z h.x × IsTooGreat z)
    → Decides b ((z : ℤ) × WritesSigned z h.y × IsTooGreat z) → Decides (a || b) (HasGreatNumber behind)
great_words behind spot a b h d e =
    let P : List (List ℕ) → Type 0 = λ l. Decides (a || b) (HasGreatNumber l) in
    subst P (sym h.are) (by a b h.x h.y (put_word h.layer (put_word h.more h.others)) h.y_behind d e)
  where
    or_true : (a b : Bool) → (a || b) ≡ true → (a ≡ true) ⊎ (b ≡ true)
    or_true true b e = inl refl
    or_true false b e = inr e

    by : (a b : Bool) (x y : List ℕ) (rest : List (List ℕ)) → (x ≡ [] → y ≡ []) → Decides a ((z : ℤ) × WritesSigned z x × IsTooGreat z)
        → Decides b ((z : ℤ) × WritesSigned z y × IsTooGreat z) → Decides (a || b) (HasGreatNumber (put_word x (put_word y rest)))
    by a b [] y rest n d e = (
      λ t. elim (or_true a b t) [
        | inl u ↦ (let g = d.0 u in no_number g.0 g.1)
        | inr u ↦ (let g = e.0 u in let P : List ℕ → Type 0 = λ l. WritesSigned g.0 l in no_number g.0 (subst P (n refl) g.1))
      ],
      λ h. absurd h,
    )
    by a b (x ∷ xs) [] rest n d e = (
      λ t. elim (or_true a b t) [ inl u ↦ d.0 u | inr u ↦ absurd (let g = e.0 u in no_number g.0 g.1) ],
      λ h. (let u = d.1 h in ap (λ (v : Bool). v || b) u),
    )
    by a b (x ∷ xs) (y ∷ ys) rest n d e = (
      λ t. elim (or_true a b t) [
        | inl u ↦ (let g = d.0 u in (g.0, inl g.1, g.2))
        | inr u ↦ (let g = e.0 u in (g.0, inr g.1, g.2))
      ],
      λ h. both h,
    )
      where
        right : (c : Bool) → (c || true) ≡ true
        right true = refl
        right false = refl

        both : HasGreatNumber ((x ∷ xs) ∷ (y ∷ ys) ∷ rest) → (a || b) ≡ true
        both h = elim h.1 [
          | inl w ↦ (let u = d.1 (h.0, w, h.2) in ap (λ (v : Bool). v || b) u)
          | inr w ↦ (let u = e.1 (h.0, w, h.2) in ap (λ (v : Bool). a || v) u ∙ right a)
        ]

-- ---- machine words

pub stands_word : (z v : ℤ) → unsigned_abs v ≤ 2 ^ 52 → StandsFor 400 z v → StandsFor 400 z (to_z w64 (of_z w64 v))
stands_word z v h s =
    let P : ℤ → Type 0 = λ n. StandsFor 400 z n in
    subst P (sym (to_z-of_z w64 v (fits_signed_from_abs w64 v (omega (arith, h))))) s

-- ---- short names

pub short_name : (word : List ℕ) (t : Bool) → (length word == 0) ≡ false → length word ≤ 4 → t ≡ list_all (λ byte. is_capital byte || is_digit byte) word
    → Decides t (IsShortName word)
short_name [] t e l f = absurd cc
short_name (b ∷ bs) t e l f = (λ h. record { some = λ z. cc; few = l; bytes = sym f ∙ h }, λ s. f ∙ s.bytes)

pub no_short_empty : (word : List ℕ) → (length word == 0) ≡ true → IsShortName word → ⊥
no_short_empty [] e s = s.some refl
no_short_empty (b ∷ bs) e s = absurd (let z = (Decides-eqb (length (b ∷ bs)) 0).0 e in omega (arith, z))
