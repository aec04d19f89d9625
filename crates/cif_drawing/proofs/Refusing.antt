-- The first stroke at which a code stands.
use Rattle.std.proofs.Common.{◌≡◌, ℕ, ◌<◌, true, List, [], ◌∷◌, ◌++◌, length, refl, sym, ◌∙◌, ap, subst, append_assoc, arith}
use Rattle.std.specs.List.{list_all}
use Rattle.std.proofs.lemmas.List.Concat.{flat_map-append}
use Rattle.geom.specs.Squares.{BoxShape}
use Rattle.geom.specs.declared.cif_code.CifCode.{CifCode}
use Rattle.geom.specs.declared.cif_code.CifCode.TheVariants.{C8, C13}
use Rattle.geom.specs.CifCodes.{code_number}
use Rattle.geom.specs.CifDrawings.{CifStroke}
use Rattle.geom.specs.CifRefusals.{stroke_boxes, StrokeFault, NoStrokeFault}
use Rattle.cif_drawing.specs.declared.flattening.FlattenFault.{FlattenFault}
use Rattle.cif_drawing.specs.declared.flattening.FlattenFault.TheVariants.{Fault}
use Rattle.cif_drawing.specs.Measures.{is_box}
use Rattle.cif_drawing.specs.Flattening.{IsFlattenFault, IsCountOf, IsFaultOf}
use Rattle.cif_drawing.proofs.Lists.{append_nil}
use Rattle.cif_drawing.proofs.Tests.{all_boxes, some_no_box}

pub boxes_more : (xs : List CifStroke) (s : CifStroke) → stroke_boxes (xs ++ s ∷ []) ≡ stroke_boxes xs ++ s.boxes
boxes_more xs s =
    flat_map-append (λ (stroke : CifStroke). stroke.boxes) xs (s ∷ []) ∙ ap (λ (l : List BoxShape). stroke_boxes xs ++ l) (append_nil s.boxes)

pub clear_more : (before xs : List CifStroke) (s : CifStroke) → NoStrokeFault before xs → ((code : CifCode) → StrokeFault code (before ++ xs) s → ⊥)
    → NoStrokeFault before (xs ++ s ∷ [])
clear_more before [] s h k =
    ((λ code f. let P : List CifStroke → Type 0 = λ l. StrokeFault code l s in k code (subst P (sym (append_nil before)) f)), tt)
clear_more before (x ∷ xs) s h k = (
  h.0,
  clear_more (before ++ x ∷ []) xs s h.1
      (λ code f. let P : List CifStroke → Type 0 = λ l. StrokeFault code l s in k code (subst P (append_assoc before (x ∷ []) xs) f)),
)

pub clear_stroke : (before : List CifStroke) (s : CifStroke) (n count : ℕ) → n ≡ length (stroke_boxes before) → IsCountOf n s count
    → (code : CifCode) → StrokeFault code before s → ⊥
clear_stroke before s n count e h C8 f = f.2 (all_boxes s.boxes h.within f.0 f.1)
clear_stroke before s n count e h C13 f = omega (arith, f, h.count_is, h.few)
clear_stroke before s n count e h code f = f

least_range : (before : List CifStroke) (s : CifStroke) (lower : CifCode) → code_number lower < 8 → StrokeFault lower before s → ⊥
least_range before s C8 h f = absurd (omega arith)
least_range before s C13 h f = absurd (omega arith)
least_range before s lower h f = f

least_count : (before : List CifStroke) (s : CifStroke) (lower : CifCode) → list_all is_box s.boxes ≡ true → code_number lower < 13
    → StrokeFault lower before s → ⊥
least_count before s C8 w h f = f.2 (all_boxes s.boxes w f.0 f.1)
least_count before s C13 w h f = absurd (omega arith)
least_count before s lower w h f = f

pub refused : (before behind : List CifStroke) (s : CifStroke) (n : ℕ) (fault : FlattenFault) → n ≡ length (stroke_boxes before) → NoStrokeFault [] before
    → IsFaultOf n s fault → IsFlattenFault (before ++ s ∷ behind) fault
refused before behind s n (Fault C8 place) e clear h = record {
  before = before;
  stroke = s;
  behind = behind;
  is = refl;
  clear = clear;
  fault = some_no_box s.boxes h.1;
  least = λ lower l f. least_range before s lower l f;
  place_is = h.0;
}
refused before behind s n (Fault C13 place) e clear h = record {
  before = before;
  stroke = s;
  behind = behind;
  is = refl;
  clear = clear;
  fault = omega (arith, h.1);
  least = λ lower l f. least_count before s lower h.2 l f;
  place_is = h.0;
}
refused before behind s n other e clear h = absurd h
