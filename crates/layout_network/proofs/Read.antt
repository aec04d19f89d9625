-- What the steps of a reading come to.
use Rattle.std.proofs.Common.{◌≡◌, ℕ, ◌≤◌, List, [], length, sym, subst}
use Rattle.geom.specs.declared.chip.Label.{Label}
use Rattle.geom.specs.Squares.{BoxShape, Covered, IsBox}
use Rattle.geom.specs.Rows.{Among}
use Rattle.geom.specs.CifDrawings.{CifDrawing}
use Rattle.geom.specs.CifRefusals.{IsCifText, NoStrokeFault, stroke_boxes}
use Rattle.switch_net.specs.Circuit.{Circuit}
use Rattle.nmos_model.specs.Networks.{StandsFor}
use Rattle.nmos_model.specs.Refusals.{IsRefusedBy}
use Rattle.nmos_model.specs.declared.refusal.ReadChipFault.{ReadChipFault}
use Rattle.nmos_model.specs.declared.refusal.ReadChipFault.TheVariants as chip
use Rattle.cif_read.specs.Reading.{IsFlatFault, IsReadCifFault}
use Rattle.cif_read.specs.declared.faults.ReadCifFault.{ReadCifFault}
use Rattle.cif_read.specs.declared.faults.ReadCifFault.TheVariants as cif
use Rattle.layout_network.specs.Layouts.{DrawsFew, IsLayout, most_boxes}
use Rattle.layout_network.specs.Layouts.LayoutRefusal.{no_text, not_flat, no_network}
use Rattle.layout_network.specs.Reading.{IsReadLayoutFault, cif_stop, extract_stop}
use Rattle.layout_network.proofs.FlatBoxes.{few_boxes}

-- the boxes of a text's drawing, where no command draws too far away or too many
pub draws_few : (text : List ℕ) (drawing : CifDrawing) (boxes : List BoxShape) (labels : List Label) → IsCifText text drawing
    → boxes ≡ stroke_boxes drawing.strokes → ((b : BoxShape) → Among boxes b → IsBox b) → labels ≡ drawing.labels → NoStrokeFault [] drawing.strokes
    → DrawsFew text boxes labels
draws_few text drawing boxes labels is drawn within named clear = record {
  draws = record { drawing = drawing; is_text = is; boxes_are = drawn; within = within; labels_are = named };
  few = subst (λ bs. length bs ≤ most_boxes) (sym drawn) (few_boxes drawing.strokes clear);
}

-- they stand for a network
pub layout_of : (text : List ℕ) (boxes : List BoxShape) (labels : List Label) (circuit : Circuit) → DrawsFew text boxes labels
    → StandsFor (Covered boxes) labels circuit → IsLayout text circuit
layout_of text boxes labels circuit few stands = record {
  drawn = record { boxes = boxes; labels = labels; draws = few.draws; stands = stands };
  few = few.few;
}

-- faults

pub text_fault : (text : List ℕ) (fault : ReadCifFault) → IsReadCifFault text fault → IsReadLayoutFault text (cif_stop fault)
text_fault text (cif.Fault fault) refused = no_text fault.code fault.place refused
text_fault text cif.NoMemory refused = tt

pub flat_fault : (text : List ℕ) (drawing : CifDrawing) (fault : ReadCifFault) → IsCifText text drawing → IsFlatFault drawing.strokes fault
    → IsReadLayoutFault text (cif_stop fault)
flat_fault text drawing (cif.Fault fault) is refused = not_flat drawing fault.code fault.place is refused
flat_fault text drawing cif.NoMemory is refused = tt

pub drawn_fault : (text : List ℕ) (boxes : List BoxShape) (labels : List Label) (fault : ReadChipFault) → DrawsFew text boxes labels
    → IsRefusedBy (Covered boxes) labels fault → IsReadLayoutFault text (extract_stop fault)
drawn_fault text boxes labels (chip.Fault fault) few refused = no_network boxes labels fault.code fault.place few refused
drawn_fault text boxes labels chip.NoMemory few refused = tt
