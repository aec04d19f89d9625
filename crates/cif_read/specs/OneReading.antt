-- Texts have one reading.
use Rattle.std.specs.Prelude.{◌≡◌, ℕ, List}
use Rattle.rx_text.specs.declared.place.Place.{Place}
use Rattle.geom.specs.declared.cif_code.CifCode.{CifCode}
use Rattle.geom.specs.CifDrawings.{CifDrawing}
use Rattle.geom.specs.CifRefusals.{IsCifText, CifRefusal}

-- A text is of one drawing at most, is refused once at most, and is never both.
pub record TextsHaveOneReading : Type 0 where
  pub one_drawing : (text : List ℕ) (drawing other : CifDrawing) → IsCifText text drawing → IsCifText text other → drawing ≡ other
  pub one_refusal : (text : List ℕ) (code other : CifCode) (place there : Place) → CifRefusal text code place → CifRefusal text other there
      → (code ≡ other) × (place ≡ there)
  pub never_both : (text : List ℕ) (drawing : CifDrawing) (code : CifCode) (place : Place) → IsCifText text drawing → CifRefusal text code place → ⊥
