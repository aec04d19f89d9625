-- The text of a chip is of one drawing.
use Rattle.std.proofs.Common.{sym, ◌∙◌, ap}
use Rattle.geom.specs.CifDrawings.{CifDrawing}
use Rattle.geom.specs.CifRefusals.{DrawsCif, stroke_boxes}
use Rattle.cif_write.specs.ChipText.{chip_text}
use Rattle.cif_write.specs.WrittenChips.{chip_boxes}
use Rattle.cif_read.proofs.laws.written_chips_are_read.Goals as goal

pub returns : goal.returns
returns c = record {
  boxes = λ chip drawing w t.
      (let d : DrawsCif (chip_text chip) (chip_boxes chip) chip.labels = c.chip_texts_draw.ensures.drawn chip w in
      ap (λ (v : CifDrawing). stroke_boxes v.strokes) (c.texts_have_one_reading.ensures.one_drawing
      (chip_text chip) drawing d.drawing t d.is_text) ∙ sym d.boxes_are);
  labels = λ chip drawing w t.
      (let d : DrawsCif (chip_text chip) (chip_boxes chip) chip.labels = c.chip_texts_draw.ensures.drawn chip w in
      ap (λ (v : CifDrawing). v.labels) (c.texts_have_one_reading.ensures.one_drawing (chip_text chip) drawing d.drawing t d.is_text)
      ∙ sym d.labels_are);
  never_refused = λ chip code place w r.
      (let d : DrawsCif (chip_text chip) (chip_boxes chip) chip.labels = c.chip_texts_draw.ensures.drawn chip w in
      c.texts_have_one_reading.ensures.never_both (chip_text chip) d.drawing code place d.is_text r);
}
