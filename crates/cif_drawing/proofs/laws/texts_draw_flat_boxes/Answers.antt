-- These are the parts of what a text draws.
use Rattle.std.proofs.Common.{refl}
use Rattle.cif_drawing.proofs.laws.texts_draw_flat_boxes.Goals as goal

pub returns : goal.returns
returns c = λ text drawing boxes t e w. record { drawing = drawing; is_text = t; boxes_are = e; within = w; labels_are = refl }
