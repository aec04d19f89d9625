-- The definitions of kinds, as they are read.
use Rattle.std.proofs.Common.{◌≡◌, ◌≢◌, inl, inr, ℕ, ◌+◌, ◌*◌, ◌<◌, ◌≤◌, ◌^◌, Bool, true, false, ◌==◌, ℤ, pos, negsuc, ◌-ℤ◌, ◌*ℤ◌, ◌<ℤ◌, List, [], ◌∷◌, ◌++◌, Option, Some, None, codes, refl, sym, ◌∙◌, append_assoc, append-nil, arith}
use Rattle.std.specs.List.{list_any}
use Rattle.std.specs.Fmt.{decimal}
use Rattle.std.proofs.lemmas.Int.{ints}
use Rattle.geom.specs.declared.layer.Layer.{Layer}
use Rattle.geom.specs.declared.layer.Layer.TheVariants.{Diffusion, Poly, Metal, Cut, Implant}
use Rattle.geom.specs.declared.cif_code.CifCode.{CifCode}
use Rattle.geom.specs.declared.cif_code.CifCode.TheVariants.{C2, C5, C6, C8}
use Rattle.geom.specs.Squares.{BoxShape}
use Rattle.geom.specs.CifCommands.{CifScale, Opens, Closes, SetsLayer, CifPart, Letters, Unsigned, SpellsPart, PartThen, AreCifBlanks, IsShortName}
use Rattle.geom.specs.CifLabels.{layer_word, layer_named}
use Rattle.geom.specs.CifDrawings.{CifSymbol, CifDrawing, CifState}
use Rattle.geom.specs.CifCodes.{MeetsCode, IsTooGreat}
use Rattle.geom.specs.CifRefusals.{stroke_boxes}
use Rattle.cif_write.specs.WrittenChips.{IsWritableEdge}
use Rattle.cif_write.proofs.CifNumbers.{number_writes, IsWithin40}
use Rattle.cif_write.proofs.CifSteps.{none_is, not_great, ReadsCommand}

-- a state outside definitions in which no layer is set
abbrev pub outside : List CifSymbol → CifDrawing → CifState
outside symbols drawing = record { symbols = symbols; opening = None; layer = None; drawing = drawing }

-- a kind as a symbol
abbrev pub kind_symbol : ℕ → List BoxShape → CifSymbol
kind_symbol n boxes = record { number = n; boxes = boxes; chain = 0 }

-- the scale of kinds
abbrev pub hundred : CifScale
hundred = record { times = 100; per = 1 }

-- a state in the definition of a kind
abbrev pub within : List CifSymbol → CifDrawing → ℕ → List BoxShape → Option Layer → CifState
within symbols drawing n boxes layer = record {
  symbols = symbols;
  opening = Some (record { symbol = kind_symbol n boxes; scale = hundred; outer = None });
  layer = layer;
  drawing = drawing;
}

-- a part, blanks and more parts
pub part_then : (part : CifPart) (needs : Bool) (More : List ℕ → Type 0) (word gap rest : List ℕ) → SpellsPart part word → AreCifBlanks gap
    → (needs ≡ true → gap ≢ []) → More rest → PartThen part needs More (word ++ (gap ++ rest))
part_then part needs More word gap rest spelled blanks apart more = record {
  word = word;
  gap = gap;
  rest = rest;
  is = sym (append_assoc word gap rest);
  spelled = spelled;
  blanks = blanks;
  apart = apart;
  more = more;
}

pub within_numbers : (n : ℕ) → n ≤ 2 ^ 40 → IsWithin40 (pos n)
within_numbers n few = record { from = omega (arith, ints); to = omega (arith, ints, few) }

module _ (symbols : List CifSymbol) (drawing : CifDrawing) (n : ℕ) where
  -- `DS N 100 1`
  abbrev pub opening_text : List ℕ
  opening_text = codes "DS" ++ (codes " " ++ (decimal n ++ (codes " " ++ (codes "100" ++ (codes " " ++ (codes "1" ++ ([] ++ [])))))))

  pub opens : n ≤ 2 ^ 40 → list_any (λ symbol. symbol.number == n) symbols ≡ false
      → ReadsCommand (outside symbols drawing) (Opens n (Some hundred)) opening_text (λ place. within symbols drawing n [] None) [] []
  opens few fresh = record {
    spelled = (
      (λ e. cc, λ e. cc),
      part_then (Letters (codes "DS")) false _ (codes "DS") (codes " ") _ refl refl (λ e. cc)
          (part_then (Unsigned n) true _ (decimal n) (codes " ") _ (number_writes n (omega (arith, few))) refl (λ e f. cc)
          (part_then (Unsigned 100) true _ (codes "100") (codes " ") _ (record { some = λ e. cc; digits = refl; value = refl }) refl (λ e f. cc)
          (part_then (Unsigned 1) false _ (codes "1") [] _ (record { some = λ e. cc; digits = refl; value = refl }) refl (λ e. cc) refl))),
    );
    clear = clear;
    leads = λ place. refl;
    boxes_are = λ place. sym (append-nil (stroke_boxes drawing.strokes));
    labels_are = λ place. sym (append-nil drawing.labels);
  }
    where
      clear : (code : CifCode) → MeetsCode code (outside symbols drawing) (Opens n (Some hundred)) → ⊥
      clear C5 h = let e = rw fresh at h in cc
      clear C6 h = cc
      clear C8 h = elim h [
        | inl great ↦ none_is IsTooGreat (pos n ∷ pos 100 ∷ pos 1 ∷ [])
            (not_great _ (within_numbers n few), (not_great _ (within_numbers 100 (omega arith)), (not_great _ (within_numbers 1 (omega arith)), tt))) great
        | inr far ↦ far
      ]
      clear other h = h

  -- `DF`
  pub closes : (boxes : List BoxShape) (layer : Option Layer)
      → ReadsCommand (within symbols drawing n boxes layer) Closes (codes "DF" ++ ([] ++ [])) (λ place. outside (kind_symbol n boxes ∷ symbols) drawing) [] []
  closes boxes layer = record {
    spelled = (tt, part_then (Letters (codes "DF")) false _ (codes "DF") [] _ refl refl (λ e. cc) refl);
    clear = clear;
    leads = λ place. refl;
    boxes_are = λ place. sym (append-nil (stroke_boxes drawing.strokes));
    labels_are = λ place. sym (append-nil drawing.labels);
  }
    where
      clear : (code : CifCode) → MeetsCode code (within symbols drawing n boxes layer) Closes → ⊥
      clear C6 h = cc
      clear C8 h = elim h [ inl great ↦ great | inr far ↦ far ]
      clear other h = h

pub layer_named_word : (layer : Layer) → layer_named (layer_word layer) ≡ Some layer
layer_named_word Diffusion = refl
layer_named_word Poly = refl
layer_named_word Metal = refl
layer_named_word Cut = refl
layer_named_word Implant = refl

pub layer_word_short : (layer : Layer) → IsShortName (layer_word layer)
layer_word_short Diffusion = record { some = λ e. cc; few = omega arith; bytes = refl }
layer_word_short Poly = record { some = λ e. cc; few = omega arith; bytes = refl }
layer_word_short Metal = record { some = λ e. cc; few = omega arith; bytes = refl }
layer_word_short Cut = record { some = λ e. cc; few = omega arith; bytes = refl }
layer_word_short Implant = record { some = λ e. cc; few = omega arith; bytes = refl }

module _ (symbols : List CifSymbol) (drawing : CifDrawing) (n : ℕ) (boxes : List BoxShape) where
  -- `L NAME`
  pub sets_layer : (before : Option Layer) (layer : Layer) → ReadsCommand (within symbols drawing n boxes before) (SetsLayer (layer_word layer))
      (codes "L" ++ (codes " " ++ (layer_word layer ++ ([] ++ [])))) (λ place. within symbols drawing n boxes (Some layer)) [] []
  sets_layer before layer = record {
    spelled = (
      layer_word_short layer,
      part_then (Letters (codes "L")) false _ (codes "L") (codes " ") _ refl refl (λ e. cc)
          (part_then (Letters (layer_word layer)) false _ (layer_word layer) [] _ refl refl (λ e. cc) refl),
    );
    clear = clear;
    leads = λ place. rw layer_named_word refl;
    boxes_are = λ place. sym (append-nil (stroke_boxes drawing.strokes));
    labels_are = λ place. sym (append-nil drawing.labels);
  }
    where
      clear : (code : CifCode) → MeetsCode code (within symbols drawing n boxes before) (SetsLayer (layer_word layer)) → ⊥
      clear C2 h = let e : Some layer ≡ None = sym (layer_named_word layer) ∙ h in cc
      clear C8 h = elim h [ inl great ↦ great | inr far ↦ far ]
      clear other h = h

-- the sides of a box, which is no wider than 2^33 λ
pub record IsSides (from to : ℤ) (side : ℕ) : Type 0 where
  pub is : pos side ≡ pos 2 *ℤ (to -ℤ from)
  pub some : side ≢ 0
  pub few : side ≤ 2 ^ 40

pub sides : (from to : ℤ) → from <ℤ to → IsWritableEdge from → IsWritableEdge to → (side : ℕ) × IsSides from to side
sides from to order near far = by (pos 2 *ℤ (to -ℤ from)) refl
  where
    by : (z : ℤ) → pos 2 *ℤ (to -ℤ from) ≡ z → (side : ℕ) × IsSides from to side
    by (pos side) e = (side, record { is = sym e; some = λ z. omega (arith, ints, e, z, order); few = omega (arith, ints, e, near.from, far.to) })
    by (negsuc n) e = absurd (omega (arith, ints, e, order))

pub within_edge : (v : ℤ) → IsWritableEdge v → IsWithin40 v
within_edge v near = record { from = omega (arith, ints, near.from); to = omega (arith, ints, near.to) }
