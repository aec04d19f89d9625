-- Chips that were written are read back.
use Rattle.std.specs.Prelude.{◌≡◌}
use Rattle.rx_text.specs.declared.place.Place.{Place}
use Rattle.geom.specs.declared.cif_code.CifCode.{CifCode}
use Rattle.geom.specs.Chips.{ChipShape}
use Rattle.geom.specs.CifDrawings.{CifDrawing}
use Rattle.geom.specs.CifRefusals.{IsCifText, CifRefusal, stroke_boxes}
use Rattle.cif_write.specs.ChipText.{chip_text}
use Rattle.cif_write.specs.WrittenChips.{IsWritable, chip_boxes}

-- The text of a chip within reach is that of a drawing with the chip's kinds at its calls and its labels, of no other, and is
-- never refused.
pub record WrittenChipsAreRead : Type 0 where
  pub boxes : (chip : ChipShape) (drawing : CifDrawing) → IsWritable chip → IsCifText (chip_text chip) drawing
      → stroke_boxes drawing.strokes ≡ chip_boxes chip
  pub labels : (chip : ChipShape) (drawing : CifDrawing) → IsWritable chip → IsCifText (chip_text chip) drawing → drawing.labels ≡ chip.labels
  pub never_refused : (chip : ChipShape) (code : CifCode) (place : Place) → IsWritable chip → CifRefusal (chip_text chip) code place → ⊥
