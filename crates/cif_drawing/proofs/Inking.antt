-- Something more in a drawing that is being built.
use Rattle.std.proofs.Common.{◌≡◌, ◌≢◌, ℕ, ◌≤◌, List, [], ◌∷◌, ◌++◌, reverse, Option, Some, None, inl, inr, refl, sym, ◌∙◌, ap, subst, arith}
use Rattle.std.proofs.lemmas.List.{map-append}
use Rattle.std.proofs.lemmas.List.Concat.{flat_map-append}
use Rattle.rx_text.specs.declared.place.Place.{Place}
use Rattle.geom.specs.declared.chip.Label.{Label}
use Rattle.geom.specs.Squares.{BoxShape}
use Rattle.geom.specs.Rows.{Among}
use Rattle.geom.specs.CifDrawings.{CifSymbol, CifStroke, stroke_of}
use Rattle.cif_drawing.specs.Shapes.{InkShape, StrokeShape, Drawn, Called}
use Rattle.cif_drawing.specs.declared.ink.Symbol.{Symbol}
use Rattle.cif_drawing.specs.declared.measure.Measure.{Measure}
use Rattle.cif_drawing.specs.Placements.{placed}
use Rattle.cif_drawing.specs.Measures.{IsMeasure}
use Rattle.cif_drawing.specs.Inks.{ink_boxes, inks_boxes, cif_symbol, closed_symbols, cif_stroke, strokes_of, drawing_of, symbol_at, IsInk, IsInkOf, IsSymbol, AreStrokes}
use Rattle.cif_drawing.specs.Numbers.{IsIndexOf}
use Rattle.cif_drawing.specs.Parts.{drawn_symbol, drawn_parts}
use Rattle.cif_drawing.specs.Building.{parts_of, open_symbol, IsBuilding, IsInked, IsAdded}
use Rattle.cif_drawing.proofs.Lists.{append_nil, among_cases, no_map}
use Rattle.cif_drawing.proofs.Measured.{measure_more}

pub ink_draws : (closed : List CifSymbol) (ink : InkShape) → IsInk closed ink → ink_boxes closed ink ≢ []
ink_draws closed (Drawn boxes) h e = h e
ink_draws closed (Called call) h e = no_map (placed call.placement) (symbol_at closed call.symbol).boxes h.draws e

stroke_drawn : (place : Place) (boxes : List BoxShape) → boxes ≢ []
    → stroke_of place boxes ≡ (let s : CifStroke = record { place = place; boxes = boxes } in s) ∷ []
stroke_drawn place [] h = absurd (h refl)
stroke_drawn place (b ∷ bs) h = refl

-- what is known of something that is added
pub record IsNewInk (closed : List CifSymbol) (ink : InkShape) (measure : Option Measure) (chain : ℕ) : Type 0 where
  pub is : IsInkOf closed chain ink
  pub short : chain ≤ 64
  pub measured : IsMeasure chain measure (ink_boxes closed ink)

ink_of_more : (closed : List CifSymbol) (m n : ℕ) (ink : InkShape) → m ≤ n → IsInkOf closed m ink → IsInkOf closed n ink
ink_of_more closed m n ink h k = record { ink = k.ink; short = omega (arith, k.short) }

inks_one : (closed : List CifSymbol) (inks : List InkShape) (ink : InkShape) → inks_boxes closed (inks ++ ink ∷ []) ≡ inks_boxes closed inks ++ ink_boxes closed ink
inks_one closed inks ink =
    flat_map-append (ink_boxes closed) inks (ink ∷ []) ∙ ap (λ (l : List BoxShape). inks_boxes closed inks ++ l) (append_nil (ink_boxes closed ink))

inked_boxes : (closed : List CifSymbol) (old new : Symbol) (ink : InkShape) (measure : Option Measure) (chain : ℕ) → IsInked old ink measure chain new
    → inks_boxes closed new.inks.items ≡ inks_boxes closed old.inks.items ++ ink_boxes closed ink
inked_boxes closed old new ink measure chain h = ap (inks_boxes closed) h.inks ∙ inks_one closed old.inks.items ink

inked_symbol : (closed : List CifSymbol) (old new : Symbol) (ink : InkShape) (measure : Option Measure) (chain : ℕ) → IsInked old ink measure chain new
    → cif_symbol closed new ≡ drawn_symbol (cif_symbol closed old) (ink_boxes closed ink) chain
inked_symbol closed old new ink measure chain h =
    ap (λ (n : ℕ). record { number = n; boxes = inks_boxes closed new.inks.items; chain = new.chain }) h.number
    ∙ (ap (λ (l : List BoxShape). record { number = old.number; boxes = l; chain = new.chain }) (inked_boxes closed old new ink measure chain h)
    ∙ ap (λ (n : ℕ). record { number = old.number; boxes = inks_boxes closed old.inks.items ++ ink_boxes closed ink; chain = n }) h.chain_is)

inked_is : (closed : List CifSymbol) (old new : Symbol) (ink : InkShape) (measure : Option Measure) (chain : ℕ) → IsInked old ink measure chain new
    → IsNewInk closed ink measure chain → IsSymbol closed old → IsSymbol closed new
inked_is closed old new ink measure chain h k s = record {
  inks = λ i a. of i (let P : List InkShape → Type 0 = λ l. Among l i in subst P h.inks a);
  short = omega (arith, h.chain_is, s.short, k.short);
  measure = (let P : List BoxShape → Type 0 = λ l. IsMeasure new.chain new.measure l in
      subst P (sym (inked_boxes closed old new ink measure chain h)) (h.joined new.chain (inks_boxes closed old.inks.items) (ink_boxes closed ink)
      (measure_more old.chain new.chain old.measure (inks_boxes closed old.inks.items) (omega (arith, h.chain_is)) s.measure)
      (measure_more chain new.chain measure (ink_boxes closed ink) (omega (arith, h.chain_is)) k.measured)));
}
  where
    of : (i : InkShape) → Among (old.inks.items ++ ink ∷ []) i → IsInkOf closed new.chain i
    of i a = elim (among_cases old.inks.items (ink ∷ []) i a) [
      | inl j ↦ ink_of_more closed old.chain new.chain i (omega (arith, h.chain_is)) (s.inks i j)
      | inr j ↦ elim j [
        | inl e ↦ (let P : InkShape → Type 0 = λ v. IsInkOf closed new.chain v in subst P e (ink_of_more closed chain new.chain ink (omega (arith, h.chain_is)) k.is))
        | inr n ↦ absurd n
      ]
    ]

strokes_one : (symbols : List Symbol) (strokes : List StrokeShape) (s : StrokeShape) → strokes_of symbols (strokes ++ s ∷ []) ≡ strokes_of symbols strokes ++ cif_stroke (closed_symbols symbols) s ∷ []
strokes_one symbols strokes s = map-append (cif_stroke (closed_symbols symbols)) strokes (s ∷ [])

-- What is added keeps what holds, and draws its boxes.
pub record Draws (symbols : List Symbol) (opening : Option Symbol) (strokes : List StrokeShape) (labels : List Label) (place : Place) (boxes : List BoxShape) (chain : ℕ)
    (opening' : Option Symbol) (strokes' : List StrokeShape) : Type 0 where
  pub holds : IsBuilding symbols opening' strokes'
  pub parts : parts_of symbols opening' strokes' labels
      ≡ drawn_parts (parts_of symbols opening strokes labels) place boxes chain (open_symbol (closed_symbols symbols) opening)

pub added_draws : (symbols : List Symbol) (opening opening' : Option Symbol) (strokes strokes' : List StrokeShape) (labels : List Label) (place : Place) (ink : InkShape)
    (measure : Option Measure) (chain : ℕ) → IsBuilding symbols opening strokes → IsNewInk (closed_symbols symbols) ink measure chain
    → IsAdded opening strokes place ink measure chain opening' strokes'
    → Draws symbols opening strokes labels place (ink_boxes (closed_symbols symbols) ink) chain opening' strokes'
added_draws symbols None None strokes strokes' labels place ink measure chain h k a =
    let closed : List CifSymbol = closed_symbols symbols in
    let stroke : StrokeShape = record { place = place; ink = ink } in
    record {
      holds = record {
        drawing = record {
          symbols = h.drawing.symbols;
          strokes = λ s i. of s (let P : List StrokeShape → Type 0 = λ l. Among l s in subst P a i);
        };
        opening = tt;
      };
      parts =
          ap (λ (l : List CifStroke). record { symbols = reverse closed; opening = None; drawing = record { strokes = l; labels = labels } })
          (ap (strokes_of symbols) a ∙ (strokes_one symbols strokes stroke
          ∙ ap (λ (l : List CifStroke). strokes_of symbols strokes ++ l) (sym (stroke_drawn place (ink_boxes closed ink) (ink_draws closed ink k.is.ink)))));
    }
  where
    of : (s : StrokeShape) → Among (strokes ++ record { place = place; ink = ink } ∷ []) s → IsInkOf (closed_symbols symbols) 64 s.ink
    of s i = elim (among_cases strokes (record { place = place; ink = ink } ∷ []) s i) [
      | inl j ↦ h.drawing.strokes s j
      | inr j ↦ elim j [
        | inl e ↦ (let P : StrokeShape → Type 0 = λ v. IsInkOf (closed_symbols symbols) 64 v.ink in subst P e (ink_of_more (closed_symbols symbols) chain 64 ink k.short k.is))
        | inr n ↦ absurd n
      ]
    ]
added_draws symbols None (Some new) strokes strokes' labels place ink measure chain h k a = absurd a
added_draws symbols (Some old) None strokes strokes' labels place ink measure chain h k a = absurd a
added_draws symbols (Some old) (Some new) strokes strokes' labels place ink measure chain h k a =
    let closed : List CifSymbol = closed_symbols symbols in
    let P : List StrokeShape → Type 0 = λ l. AreStrokes closed l in
    let Q : ℕ → Type 0 = λ n. IsIndexOf symbols n None in
    record {
      holds = record {
        drawing = record { symbols = h.drawing.symbols; strokes = subst P (sym a.1) h.drawing.strokes };
        opening = (inked_is closed old new ink measure chain a.0 k h.opening.0, subst Q (sym a.0.number) h.opening.1);
      };
      parts =
          ap (λ (s : CifSymbol). record { symbols = reverse closed; opening = Some s; drawing = drawing_of symbols strokes' labels })
          (inked_symbol closed old new ink measure chain a.0)
          ∙ ap (λ (l : List StrokeShape). record {
            symbols = reverse closed;
            opening = Some (drawn_symbol (cif_symbol closed old) (ink_boxes closed ink) chain);
            drawing = drawing_of symbols l labels;
          }) a.1;
    }

-- boxes that are added
pub boxes_draw : (symbols : List Symbol) (opening opening' : Option Symbol) (strokes strokes' : List StrokeShape) (labels : List Label) (place : Place) (ink : InkShape)
    (boxes : List BoxShape) (m : Measure) → ink ≡ Drawn boxes → IsMeasure 0 (Some m) boxes → IsBuilding symbols opening strokes
    → IsAdded opening strokes place ink (Some m) 0 opening' strokes' → Draws symbols opening strokes labels place boxes 0 opening' strokes'
boxes_draw symbols opening opening' strokes strokes' labels place ink boxes m e h b a =
    let P : InkShape → Type 0 = λ i. IsAdded opening strokes place i (Some m) 0 opening' strokes' in
    let new : IsNewInk (closed_symbols symbols) (Drawn boxes) (Some m) 0 =
    record { is = record { ink = h.0; short = omega arith }; short = omega arith; measured = h } in
    added_draws symbols opening opening' strokes strokes' labels place (Drawn boxes) (Some m) 0 b new (subst P e a)
