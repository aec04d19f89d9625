-- Layouts have one reading.
use Rattle.std.proofs.Common.{◌≡◌, ℕ, ◌≤◌, List, length, sym, ◌∙◌, ap, subst}
use Rattle.rx_text.specs.declared.place.Place.{Place}
use Rattle.geom.specs.declared.chip.Label.{Label}
use Rattle.geom.specs.declared.cif_code.CifCode.{CifCode}
use Rattle.geom.specs.Squares.{BoxShape, Covered, IsBox}
use Rattle.geom.specs.Rows.{Among}
use Rattle.geom.specs.CifDrawings.{CifDrawing}
use Rattle.geom.specs.CifRefusals.{DrawsCif, FlatRefusal, IsCifText, stroke_boxes}
use Rattle.switch_net.specs.Circuit.{Circuit, IsSameNetwork}
use Rattle.nmos_model.specs.Networks.{StandsFor}
use Rattle.nmos_model.specs.Refusals.{IsRefused, NeverBoth, RefusedOnce, StandForOne}
use Rattle.cif_read.specs.OneReading.{TextsHaveOneReading}
use Rattle.layout_network.specs.Layouts.{DrawsFew, IsLayout, LayoutRefusal, most_boxes}
use Rattle.layout_network.specs.Layouts.LayoutRefusal.{no_text, not_flat, no_network}
use Rattle.layout_network.specs.OneReading.{LayoutsHaveOneReading}
use Rattle.layout_network.specs.declared.fault.LayoutCode.{LayoutCode}
use Rattle.layout_network.specs.declared.fault.LayoutCode.TheVariants.{Drawing, Network}
use Rattle.layout_network.proofs.FlatBoxes.{not_refused, one_flat_refusal}
use Rattle.layout_network.proofs.LabelNames.{BearNames, are_named, pads_named, text_labels}

-- what a layout draws
few_of : (text : List ℕ) (circuit : Circuit) → (layout : IsLayout text circuit) → DrawsFew text layout.drawn.boxes layout.drawn.labels
few_of text circuit layout = record { draws = layout.drawn.draws; few = layout.few }

-- the labels that a text draws bear names
drawn_labels : (text : List ℕ) (boxes : List BoxShape) (labels : List Label) → DrawsCif text boxes labels → BearNames labels
drawn_labels text boxes labels draws =
    let is = draws.is_text in
    text_labels text labels is.last is.draws (draws.labels_are ∙ ap (λ (d : CifDrawing). d.labels) is.drawing_is)

module _ (texts : TextsHaveOneReading) (text : List ℕ) where
  -- what a text draws is one
  one_list : (boxes others : List BoxShape) (labels more : List Label) → DrawsCif text boxes labels → DrawsCif text others more
      → (boxes ≡ others) × (labels ≡ more)
  one_list boxes others labels more first second =
      let same = texts.one_drawing text first.drawing second.drawing first.is_text second.is_text in (
        first.boxes_are ∙ ap (λ (d : CifDrawing). stroke_boxes d.strokes) same ∙ sym second.boxes_are,
        first.labels_are ∙ ap (λ (d : CifDrawing). d.labels) same ∙ sym second.labels_are,
      )

  -- a text that draws few boxes within reach is no text of a refused drawing
  not_far : (boxes : List BoxShape) (labels : List Label) → DrawsFew text boxes labels → (drawing : CifDrawing) (code : CifCode) (place : Place)
      → IsCifText text drawing → FlatRefusal drawing.strokes code place → ⊥
  not_far boxes labels few drawing code place is refused =
      let draws = few.draws in
      let same : boxes ≡ stroke_boxes drawing.strokes =
      draws.boxes_are ∙ ap (λ (d : CifDrawing). stroke_boxes d.strokes) (texts.one_drawing text draws.drawing drawing draws.is_text is) in
      not_refused drawing.strokes (subst (λ bs. (b : BoxShape) → Among bs b → IsBox b) same draws.within)
      (subst (λ bs. length bs ≤ most_boxes) same few.few) code place refused

  module _ (apart : (boxes : List BoxShape) → NeverBoth (Covered boxes)) where
    never_both : (circuit : Circuit) (code : LayoutCode) (place : Place) → IsLayout text circuit → LayoutRefusal text code place → ⊥
    never_both circuit code place layout (no_text named at refused) =
        texts.never_both text layout.drawn.draws.drawing named at layout.drawn.draws.is_text refused
    never_both circuit code place layout (not_flat drawing named at is refused) =
        not_far layout.drawn.boxes layout.drawn.labels (few_of text circuit layout) drawing named at is refused
    never_both circuit code place layout (no_network boxes labels named at few refused) =
        let same = one_list boxes layout.drawn.boxes labels layout.drawn.labels few.draws layout.drawn.draws in
        let here : IsRefused (Covered layout.drawn.boxes) layout.drawn.labels named at =
        subst (λ ls. IsRefused (Covered layout.drawn.boxes) ls named at) same.1 (subst (λ bs. IsRefused (Covered bs) labels named at) same.0 refused) in
        apart layout.drawn.boxes layout.drawn.labels circuit named at
        (are_named layout.drawn.labels (drawn_labels text layout.drawn.boxes layout.drawn.labels layout.drawn.draws)) layout.drawn.stands here

  module _ (once : (boxes : List BoxShape) → RefusedOnce (Covered boxes)) where
    one_refusal : (code other : LayoutCode) (place there : Place) → LayoutRefusal text code place → LayoutRefusal text other there
        → (code ≡ other) × (place ≡ there)
    one_refusal code other place there (no_text named at refused) (no_text called elsewhere denied) =
        let same = texts.one_refusal text named called at elsewhere refused denied in (ap Drawing same.0, same.1)
    one_refusal code other place there (no_text named at refused) (not_flat drawing called elsewhere is denied) =
        absurd (texts.never_both text drawing named at is refused)
    one_refusal code other place there (no_text named at refused) (no_network boxes labels called elsewhere few denied) =
        absurd (texts.never_both text few.draws.drawing named at few.draws.is_text refused)
    one_refusal code other place there (not_flat drawing named at is refused) (no_text called elsewhere denied) =
        absurd (texts.never_both text drawing called elsewhere is denied)
    one_refusal code other place there (not_flat drawing named at is refused) (not_flat second called elsewhere are denied) =
        let same = texts.one_drawing text second drawing are is in
        let flat = one_flat_refusal drawing.strokes named called at elsewhere refused
        (subst (λ (d : CifDrawing). FlatRefusal d.strokes called elsewhere) same denied) in
        (ap Drawing flat.0, flat.1)
    one_refusal code other place there (not_flat drawing named at is refused) (no_network boxes labels called elsewhere few denied) =
        absurd (not_far boxes labels few drawing named at is refused)
    one_refusal code other place there (no_network boxes labels named at few refused) (no_text called elsewhere denied) =
        absurd (texts.never_both text few.draws.drawing called elsewhere few.draws.is_text denied)
    one_refusal code other place there (no_network boxes labels named at few refused) (not_flat drawing called elsewhere is denied) =
        absurd (not_far boxes labels few drawing called elsewhere is denied)
    one_refusal code other place there (no_network boxes labels named at few refused) (no_network others more called elsewhere some denied) =
        let same = one_list others boxes more labels some.draws few.draws in
        let here : IsRefused (Covered boxes) labels called elsewhere =
        subst (λ ls. IsRefused (Covered boxes) ls called elsewhere) same.1 (subst (λ bs. IsRefused (Covered bs) more called elsewhere) same.0 denied) in
        let fault = once boxes labels named called at elsewhere refused here in
        (ap Network fault.0, fault.1)

  module _ (alike : (boxes : List BoxShape) → StandForOne (Covered boxes)) where
    one_network : (one other : Circuit) → IsLayout text one → IsLayout text other → IsSameNetwork one other
    one_network one other first second =
        let mine = first.drawn in
        let yours = second.drawn in
        let same = one_list yours.boxes mine.boxes yours.labels mine.labels yours.draws mine.draws in
        let here : StandsFor (Covered mine.boxes) mine.labels other =
        subst (λ ls. StandsFor (Covered mine.boxes) ls other) same.1 (subst (λ bs. StandsFor (Covered bs) yours.labels other) same.0 yours.stands) in
        alike mine.boxes mine.labels one other (are_named mine.labels (drawn_labels text mine.boxes mine.labels mine.draws)) mine.stands here

pub one_reading : TextsHaveOneReading → ((boxes : List BoxShape) → NeverBoth (Covered boxes)) → ((boxes : List BoxShape) → RefusedOnce (Covered boxes))
    → ((boxes : List BoxShape) → StandForOne (Covered boxes)) → LayoutsHaveOneReading
one_reading texts apart once alike = record {
  one_network = λ text one other first second. one_network texts text alike one other first second;
  one_refusal = λ text code other place there first second. one_refusal texts text once code other place there first second;
  never_both = λ text circuit code place layout refused. never_both texts text apart circuit code place layout refused;
  named = λ text circuit layout.
      (let drawn = layout.drawn in
      pads_named drawn.stands.net drawn.labels circuit.pads drawn.stands.connects.pads (drawn_labels text drawn.boxes drawn.labels drawn.draws));
}
