-- The labels of a chip, as they are read.
use Rattle.std.proofs.Common.{◌≡◌, ◌≢◌, inl, inr, ℕ, ◌+◌, ◌*◌, Bool, true, false, not, ◌==◌, ◌&&◌, nat_le, ℤ, pos, neg_ℤ, ◌*ℤ◌, List, [], ◌∷◌, ◌++◌, length, drop, get_or, Option, Some, None, IfSome, codes, refl, sym, ap, ◌∙◌, subst, append_assoc, append-nil, arith}
use Rattle.std.specs.List.{list_all}
use Rattle.std.specs.Fmt.{signed_decimal}
use Rattle.std.specs.Str.Parse.{digits_value}
use Rattle.std.proofs.lemmas.Bool.{ne_eqb, leb-true}
use Rattle.rx_text.specs.Name.{is_letter, is_name_byte, begins_as_name, is_name}
use Rattle.rx_text.specs.NumberInText.{is_digit}
use Rattle.rx_text.specs.Role.{NamedRole}
use Rattle.rx_text.specs.declared.pad_name.Role.{Role}
use Rattle.rx_text.specs.declared.pad_name.Role.TheVariants.{Vdd, Gnd, Phi1, Phi2, Reset, Input, Output}
use Rattle.geom.specs.declared.layer.Layer.{Layer}
use Rattle.geom.specs.declared.layer.Layer.TheVariants.{Diffusion, Poly, Metal, Cut, Implant}
use Rattle.geom.specs.declared.chip.Label.{Label}
use Rattle.geom.specs.declared.cif_code.CifCode.{CifCode}
use Rattle.geom.specs.declared.cif_code.CifCode.TheVariants.{C7, C8, C12}
use Rattle.geom.specs.Squares.{BoxShape}
use Rattle.geom.specs.CifCommands.{Extension, WritesNumber, WritesSigned}
use Rattle.geom.specs.CifLabels.{layer_word, pad_word, own_word, label_word, cut_at_spaces, has_bytes, label_words, NamesPad, IsLabel}
use Rattle.geom.specs.CifDrawings.{CifSymbol, CifDrawing}
use Rattle.geom.specs.CifCodes.{MeetsCode, IsTooGreat, IsOffGrid, HasGreatNumber}
use Rattle.geom.specs.CifRefusals.{stroke_boxes}
use Rattle.cif_write.specs.ChipText.{label_line}
use Rattle.cif_write.specs.WrittenChips.{IsWritableLabel}
use Rattle.cif_write.proofs.CifNumbers.{signed_writes}
use Rattle.cif_write.proofs.CifSteps.{none_is, not_great, ReadsCommand, GoesBehind, step}
use Rattle.cif_write.proofs.CifKinds.{outside}
use Rattle.cif_write.proofs.CifBoxes.{small_size}
use Rattle.cif_write.proofs.CifCalls.{one, placed, within_place}

-- each of two tests that pass
both : (a b : Bool) → (a && b) ≡ true → (a ≡ true) × (b ≡ true)
both true b h = (refl, h)
both false b h = cc

-- a byte that ends no word of a label
abbrev pub is_plain : ℕ → Bool
is_plain byte = not (byte == 32) && not (byte == 59)

-- a word of a label
pub record IsPlainWord (word : List ℕ) : Type 0 where
  pub some : has_bytes word ≡ true
  pub plain : list_all is_plain word ≡ true

plain_by : (byte : ℕ) → byte ≢ 32 → byte ≢ 59 → is_plain byte ≡ true
plain_by byte no_space no_end = rw (ne_eqb byte 32 no_space, ne_eqb byte 59 no_end) refl

digit_plain : (byte : ℕ) → is_digit byte ≡ true → is_plain byte ≡ true
digit_plain byte h =
    let (low, high) = both (nat_le 48 byte) (nat_le byte 57) h in
    let from = leb-true _ _ low in
    let to = leb-true _ _ high in
    plain_by byte (λ e. omega (arith, e, from)) (λ e. omega (arith, e, to))

all_plain : (p : ℕ → Bool) → ((byte : ℕ) → p byte ≡ true → is_plain byte ≡ true) → (bytes : List ℕ) → list_all p bytes ≡ true → list_all is_plain bytes ≡ true
all_plain p each [] h = refl
all_plain p each (byte ∷ bytes) h =
    let (here, later) = both (p byte) (list_all p bytes) h in rw (each byte here) (all_plain p each bytes later)

name_plain : (byte : ℕ) → is_name_byte byte ≡ true → is_plain byte ≡ true
name_plain byte h = plain_by byte (λ e. let clash : false ≡ true = rw e at h in cc) (λ e. let clash : false ≡ true = rw e at h in cc)

name_bytes : (name : List ℕ) → is_name name ≡ true → list_all is_name_byte name ≡ true
name_bytes [] h = refl
name_bytes (first ∷ rest) h =
    let (begins, few) = both (begins_as_name (first ∷ rest)) (nat_le (length (first ∷ rest)) 31) h in
    let (letter, others) = both (is_letter first) (list_all is_name_byte rest) begins in
    rw (letter, others) refl

has_digits : (bytes : List ℕ) → bytes ≢ [] → has_bytes bytes ≡ true
has_digits [] some = absurd (some refl)
has_digits (byte ∷ bytes) some = refl

plain_number : (n : ℕ) (bytes : List ℕ) → WritesNumber n bytes → IsPlainWord bytes
plain_number n bytes writes = record { some = has_digits bytes writes.some; plain = all_plain is_digit digit_plain bytes writes.digits }

plain_signed : (z : ℤ) (bytes : List ℕ) → WritesSigned z bytes → IsPlainWord bytes
plain_signed z bytes (inl w) = plain_number w.0 bytes w.2
plain_signed z bytes (inr w) =
    let digits = plain_number w.0 w.1 w.4 in rw w.3 (record { some = refl; plain = digits.plain })

plain_layer : (layer : Layer) → IsPlainWord (layer_word layer)
plain_layer Diffusion = record { some = refl; plain = refl }
plain_layer Poly = record { some = refl; plain = refl }
plain_layer Metal = record { some = refl; plain = refl }
plain_layer Cut = record { some = refl; plain = refl }
plain_layer Implant = record { some = refl; plain = refl }

plain_own : (name : Option (List ℕ)) → IfSome name (λ bytes. is_name bytes ≡ true) → list_all is_plain (own_word name) ≡ true
plain_own None h = refl
plain_own (Some name) h = all_plain is_name_byte name_plain name (name_bytes name h)

plain_pad : (role : Role) (name : Option (List ℕ)) → IfSome name (λ bytes. is_name bytes ≡ true) → IsPlainWord (pad_word role ++ own_word name)
plain_pad Vdd name h = record { some = refl; plain = plain_own name h }
plain_pad Gnd name h = record { some = refl; plain = plain_own name h }
plain_pad Phi1 name h = record { some = refl; plain = plain_own name h }
plain_pad Phi2 name h = record { some = refl; plain = plain_own name h }
plain_pad Reset name h = record { some = refl; plain = plain_own name h }
plain_pad Input name h = record { some = refl; plain = plain_own name h }
plain_pad Output name h = record { some = refl; plain = plain_own name h }

-- a word and a space
cut_word : (word rest : List ℕ) → list_all is_plain word ≡ true → cut_at_spaces (word ++ (32 ∷ rest)) ≡ word ∷ cut_at_spaces rest
cut_word [] rest h = refl
cut_word (byte ∷ word) rest h =
    let (here, later) = both (is_plain byte) (list_all is_plain word) h in
    let (no_space, no_end) = both (not (byte == 32)) (not (byte == 59)) here in
    let other : (byte == 32) ≡ false = is_false (byte == 32) no_space in
    rw (other, cut_word word rest later) refl
  where
    is_false : (b : Bool) → not b ≡ true → b ≡ false
    is_false true e = cc
    is_false false e = refl

-- a last word
cut_last : (word : List ℕ) → list_all is_plain word ≡ true → cut_at_spaces word ≡ word ∷ []
cut_last [] h = refl
cut_last (byte ∷ word) h =
    let (here, later) = both (is_plain byte) (list_all is_plain word) h in
    let (no_space, no_end) = both (not (byte == 32)) (not (byte == 59)) here in
    let other : (byte == 32) ≡ false = is_false (byte == 32) no_space in
    rw (other, cut_last word later) refl
  where
    is_false : (b : Bool) → not b ≡ true → b ≡ false
    is_false true e = cc
    is_false false e = refl

-- bytes without `;`
abbrev no_end : ℕ → Bool
no_end byte = not (byte == 59)

goes_on : (word rest : List ℕ) → list_all is_plain word ≡ true → list_all no_end rest ≡ true → list_all no_end (word ++ rest) ≡ true
goes_on [] rest h more = more
goes_on (byte ∷ word) rest h more =
    let (here, later) = both (is_plain byte) (list_all is_plain word) h in
    let (no_space, ends) = both (not (byte == 32)) (not (byte == 59)) here in
    rw ends (goes_on word rest later more)

all_no_end : (word : List ℕ) → list_all is_plain word ≡ true → list_all no_end word ≡ true
all_no_end word h = rw append-nil at (goes_on word [] h refl)

-- one number at most
writes_same : (a b : ℤ) (bytes : List ℕ) → WritesSigned a bytes → WritesSigned b bytes → a ≡ b
writes_same a b bytes (inl v) (inl w) = v.1 ∙ ap pos (sym v.2.value ∙ w.2.value) ∙ sym w.1
writes_same a b bytes (inr v) (inr w) =
    let tails : 45 ∷ v.1 ≡ 45 ∷ w.1 = sym v.3 ∙ w.3 in
    let same : v.1 ≡ w.1 = cc in
    v.2 ∙ ap (λ n. neg_ℤ (pos n)) (sym v.4.value ∙ ap (digits_value 10) same ∙ w.4.value) ∙ sym w.2
writes_same a b bytes (inl v) (inr w) = let clash : false ≡ true = rw w.3 at v.2.digits in cc
writes_same a b bytes (inr v) (inl w) = let clash : false ≡ true = rw v.3 at w.2.digits in cc

module _ (symbols : List CifSymbol) (drawing : CifDrawing) (label : Label) (good : IsWritableLabel label) where
  abbrev x_word : List ℕ
  x_word = signed_decimal (pos 200 *ℤ label.x)

  abbrev y_word : List ℕ
  y_word = signed_decimal (pos 200 *ℤ label.y)

  -- `94 NAME X Y LAYER`
  abbrev label_text : List ℕ
  label_text = 57 ∷ 52 ∷ 32 ∷ (label_word label.pad ++ (32 ∷ (x_word ++ (32 ∷ (y_word ++ (32 ∷ layer_word label.layer))))))

  x_writes : WritesSigned (pos 200 *ℤ label.x) x_word
  x_writes = signed_writes _ (small_size _ (within_place _ good.x))

  y_writes : WritesSigned (pos 200 *ℤ label.y) y_word
  y_writes = signed_writes _ (small_size _ (within_place _ good.y))

  name_is : IsPlainWord (label_word label.pad)
  name_is = plain_pad label.pad.role label.pad.name good.pad.1

  x_is : IsPlainWord x_word
  x_is = plain_signed _ _ x_writes

  y_is : IsPlainWord y_word
  y_is = plain_signed _ _ y_writes

  words : label_words label_text ≡ codes "94" ∷ label_word label.pad ∷ x_word ∷ y_word ∷ layer_word label.layer ∷ []
  words =
      let last = plain_layer label.layer in
      rw (
        cut_word (label_word label.pad) (x_word ++ (32 ∷ (y_word ++ (32 ∷ layer_word label.layer)))) name_is.plain,
        cut_word x_word (y_word ++ (32 ∷ layer_word label.layer)) x_is.plain,
        cut_word y_word (layer_word label.layer) y_is.plain,
        cut_last (layer_word label.layer) last.plain,
        name_is.some,
        x_is.some,
        y_is.some,
        last.some,
      ) refl

  is_label : IsLabel label_text label
  is_label = record { x = x_word; y = y_word; names = (good.pad, words); across = x_writes; upward = y_writes; bears = good.layer }

  -- any naming of a pad goes on with these words
  named : (pad : NamedRole) (behind : List (List ℕ)) → NamesPad label_text pad behind → behind ≡ x_word ∷ y_word ∷ layer_word label.layer ∷ []
  named pad behind names = ap (drop 2) (sym names.1 ∙ words)

  abbrev labelled : CifDrawing
  labelled = record { strokes = drawing.strokes; labels = drawing.labels ++ label ∷ [] }

  labels_read : ReadsCommand (outside symbols drawing) (Extension label_text) label_text (λ place. outside symbols labelled) [] (label ∷ [])
  labels_read = record {
    spelled = (refl, (refl, extension));
    clear = clear;
    leads = λ place. inl (label, is_label, refl);
    boxes_are = λ place. sym (append-nil (stroke_boxes drawing.strokes));
    labels_are = λ place. refl;
  }
    where
      extension : list_all no_end (52 ∷ 32 ∷ (label_word label.pad ++ (32 ∷ (x_word ++ (32 ∷ (y_word ++ (32 ∷ layer_word label.layer))))))) ≡ true
      extension =
          goes_on (label_word label.pad) _ name_is.plain (goes_on x_word _ x_is.plain (goes_on y_word _ y_is.plain (all_no_end
          (layer_word label.layer) (plain_layer label.layer).plain)))

      clear : (code : CifCode) → MeetsCode code (outside symbols drawing) (Extension label_text) → ⊥
      clear C7 h =
          let e = named h.pad _ h.names in
          let first : h.words.0 ≡ x_word = ap (λ (l : List (List ℕ)). get_or l 0 []) e in
          let second : h.words.1 ≡ y_word = ap (λ (l : List (List ℕ)). get_or l 1 []) e in
          let x : h.x ≡ pos 200 *ℤ label.x = writes_same _ _ x_word (rw first at h.across) x_writes in
          let y : h.y ≡ pos 200 *ℤ label.y = writes_same _ _ y_word (rw second at h.upward) y_writes in
          let off = rw (x, y) at h.off in
          none_is (IsOffGrid one) ((pos 2 *ℤ (pos 200 *ℤ label.x)) ∷ (pos 2 *ℤ (pos 200 *ℤ label.y)) ∷ []) (
            (placed _ good.x).on_grid,
            ((placed _ good.y).on_grid, tt),
          ) off
      clear C8 h =
          let great : HasGreatNumber (x_word ∷ y_word ∷ layer_word label.layer ∷ []) = subst HasGreatNumber (named h.0 h.1 h.2) h.3 in
          elim great.1 [
            | inl x ↦ not_great _ (within_place _ good.x) (subst IsTooGreat (writes_same _ _ x_word x x_writes) great.2)
            | inr y ↦ not_great _ (within_place _ good.y) (subst IsTooGreat (writes_same _ _ y_word y y_writes) great.2)
          ]
      clear C12 h = elim h.3 [ inl inside ↦ cc | inr no_label ↦ no_label label is_label ]
      clear other h = h

  line_written : (start name s x y layer end more : List ℕ)
      → (start ++ name ++ (s ++ x ++ s ++ y ++ s) ++ layer ++ end) ++ more ≡ start ++ (name ++ (s ++ (x ++ (s ++ (y ++ (s ++ (layer ++ (end ++ more))))))))
  line_written start name s x y layer end more = simp append_assoc refl

  line_nested : (start name s x y layer z : List ℕ)
      → (start ++ (name ++ (s ++ (x ++ (s ++ (y ++ (s ++ layer))))))) ++ z ≡ start ++ (name ++ (s ++ (x ++ (s ++ (y ++ (s ++ (layer ++ z)))))))
  line_nested start name s x y layer z = simp append_assoc refl

  -- the line of the label, and what is read behind it
  pub label_goes : (more : List ℕ) (xs : List BoxShape) (ls : List Label) → GoesBehind (outside symbols labelled) more xs ls
      → GoesBehind (outside symbols drawing) (label_line label ++ more) xs (label ∷ ls)
  label_goes more xs ls behind =
      let e : label_line label ++ more ≡ label_text ++ (59 ∷ 10 ∷ more) =
      line_written (codes "94 ") (label_word label.pad) (codes " ") x_word y_word (layer_word label.layer) (codes ";\n") more
      ∙ sym (line_nested (codes "94 ") (label_word label.pad) (codes " ") x_word y_word (layer_word label.layer) (59 ∷ 10 ∷ more)) in
      rw e (step more xs ls labels_read (λ place. behind))
