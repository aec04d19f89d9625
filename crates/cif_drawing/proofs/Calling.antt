-- Calls, and definitions that are closed.
use Rattle.std.proofs.Common.{◌≡◌, ◌≢◌, ℕ, Bool, ◌+◌, ◌^◌, ◌<◌, ◌≤◌, ◌==◌, cond, max, List, [], ◌∷◌, ◌++◌, length, get_or, map, reverse, fold, Option, Some, None, inl, refl, sym, ◌∙◌, ap, subst, arith}
use Rattle.std.proofs.lemmas.List.{reverse-append}
use Rattle.std.proofs.lemmas.Bool.{ne_eqb}
use Rattle.rx_text.specs.declared.place.Place.{Place}
use Rattle.geom.specs.declared.chip.Label.{Label}
use Rattle.geom.specs.Squares.{BoxShape}
use Rattle.geom.specs.Rows.{Among}
use Rattle.geom.specs.CifDrawings.{CifSymbol, CifStroke, chain_if_drawn}
use Rattle.cif_drawing.specs.declared.kept.Call.{Call}
use Rattle.cif_drawing.specs.Shapes.{InkShape, StrokeShape, Called}
use Rattle.cif_drawing.specs.declared.ink.Symbol.{Symbol}
use Rattle.cif_drawing.specs.declared.placement.Placement.{Placement}
use Rattle.cif_drawing.specs.declared.placement.Step.{Step}
use Rattle.cif_drawing.specs.declared.measure.Measure.{Measure}
use Rattle.cif_drawing.specs.Placements.{IsOrdered, placed, IsNear, step_box, stepped_boxes}
use Rattle.cif_drawing.specs.Measures.{IsMeasure}
use Rattle.cif_drawing.specs.Inks.{symbol_at, ink_boxes, ink_chain, inks_boxes, cif_symbol, with_symbol, closed_symbols, cif_stroke, strokes_of, drawing_of, IsCall, IsInk, AreSymbols, AreStrokes}
use Rattle.cif_drawing.specs.Numbers.{IsIndex, IsIndexOf}
use Rattle.cif_drawing.specs.Parts.{DrawingParts, part_boxes, part_chain, chain_or_none, drawn_parts, closed_parts}
use Rattle.cif_drawing.specs.Building.{parts_of, open_symbol, IsBuilding, IsAdded}
use Rattle.cif_drawing.proofs.Lists.{append_nil, map_alike, no_append}
use Rattle.cif_drawing.proofs.Measured.{measure_ordered}
use Rattle.cif_drawing.proofs.Standing.{StandsAt, one_more, symbols_more, ink_stays, ink_of_still, length_closed}
use Rattle.cif_drawing.proofs.Expanded.{index_stands}
use Rattle.cif_drawing.proofs.Numbers.{found, index_found, none_found}
use Rattle.cif_drawing.proofs.Inking.{IsNewInk, ink_draws, Draws, added_draws}

-- ---- how long the chain of a call is

no_boxes : (boxes : List BoxShape) (n : ℕ) → boxes ≡ [] → chain_if_drawn boxes n ≡ 0
no_boxes boxes n e = ap (λ (l : List BoxShape). chain_if_drawn l n) e

some_boxes : (boxes : List BoxShape) (n : ℕ) → boxes ≢ [] → chain_if_drawn boxes n ≡ n + 1
some_boxes [] n h = absurd (h refl)
some_boxes (b ∷ bs) n h = refl

inks_draw : (closed : List CifSymbol) (inks : List InkShape) → ((i : InkShape) → Among inks i → IsInk closed i) → inks ≢ [] → inks_boxes closed inks ≢ []
inks_draw closed [] h some = absurd (some refl)
inks_draw closed (i ∷ is) h some = no_append (ink_boxes closed i) (inks_boxes closed is) (ink_draws closed i (h i (inl refl)))

chain_by : (closed : List CifSymbol) (inks : List InkShape) (n : ℕ) → ((i : InkShape) → Among inks i → IsInk closed i)
    → chain_if_drawn (inks_boxes closed inks) n ≡ cond (length inks == 0) 0 (n + 1)
chain_by closed [] n h = refl
chain_by closed (i ∷ is) n h =
    some_boxes (inks_boxes closed (i ∷ is)) n (inks_draw closed (i ∷ is) h (λ e. cc))
    ∙ ap (λ (t : Bool). cond t 0 (n + 1)) (sym (ne_eqb (length (i ∷ is)) 0 (λ e. omega (arith, e))))

pub chain_is : (closed : List CifSymbol) (k : ℕ) (s : Symbol) → StandsAt closed k s
    → chain_if_drawn (symbol_at closed k).boxes (symbol_at closed k).chain ≡ cond (length s.inks.items == 0) 0 (s.chain + 1)
chain_is closed k s h =
    ap (λ (c : CifSymbol). chain_if_drawn c.boxes c.chain) h.is ∙ chain_by closed s.inks.items s.chain (λ i a. (h.symbol.inks i a).ink)

-- ---- a call

pub new_call : (closed : List CifSymbol) (call : Call) (n : ℕ) → call.symbol < length closed
    → n ≡ chain_if_drawn (symbol_at closed call.symbol).boxes (symbol_at closed call.symbol).chain → n ≢ 0 → IsNear (2 ^ 103) call.placement.by → IsCall closed call
new_call closed call n short e some near = record {
  before = short;
  draws = λ f. some (e ∙ no_boxes (symbol_at closed call.symbol).boxes (symbol_at closed call.symbol).chain f);
  near = near;
}

pub new_ink : (closed : List CifSymbol) (call : Call) (n : ℕ) (measure : Option Measure) → IsCall closed call
    → n ≡ chain_if_drawn (symbol_at closed call.symbol).boxes (symbol_at closed call.symbol).chain → n ≤ 64
    → IsMeasure (ink_chain closed (Called call)) measure (ink_boxes closed (Called call)) → IsNewInk closed (Called call) measure n
new_ink closed call n measure k e short m =
    let chain : (symbol_at closed call.symbol).chain + 1 ≡ n =
    sym (e ∙ some_boxes (symbol_at closed call.symbol).boxes (symbol_at closed call.symbol).chain k.draws) in
    let P : ℕ → Type 0 = λ v. IsMeasure v measure (ink_boxes closed (Called call)) in
    record {
      is = record { ink = k; short = omega (arith, chain) };
      short = short;
      measured = subst P chain m;
    }

pub stepped_same : (closed : List CifSymbol) (k : ℕ) (s : Symbol) (p : Placement) (steps : List Step) → StandsAt closed k s
    → ((b : BoxShape) → IsOrdered b → placed p b ≡ fold step_box b steps) → map (placed p) (symbol_at closed k).boxes ≡ stepped_boxes steps (symbol_at closed k).boxes
stepped_same closed k s p steps h place =
    map_alike (placed p) (λ (b : BoxShape). fold step_box b steps) (symbol_at closed k).boxes
    (λ b i.
    let P : List BoxShape → Type 0 = λ l. Among l b in
    place b (measure_ordered s.chain s.measure (inks_boxes closed s.inks.items) h.symbol.measure b (subst P (ap (λ (c : CifSymbol). c.boxes) h.is) i)))

-- ---- nothing drawn

max_none : (n : ℕ) → max n 0 ≡ n
max_none n = omega arith

pub drawn_nothing : (parts : DrawingParts) (place : Place) (boxes : List BoxShape) (chain : ℕ) (o : Option CifSymbol) → o ≡ parts.opening → boxes ≡ [] → chain ≡ 0
    → parts ≡ drawn_parts parts place boxes chain o
drawn_nothing parts place boxes chain o e f g =
    let P : Option CifSymbol → Type 0 = λ p. parts ≡ drawn_parts parts place boxes chain p in
    let Q : List BoxShape → Type 0 = λ l. parts ≡ drawn_parts parts place l chain parts.opening in
    let R : ℕ → Type 0 = λ n. parts ≡ drawn_parts parts place [] n parts.opening in
    subst P (sym e) (subst Q (sym f) (subst R (sym g) (same parts.symbols parts.opening parts.drawing.strokes parts.drawing.labels)))
  where
    same : (symbols : List CifSymbol) (opening : Option CifSymbol) (strokes : List CifStroke) (labels : List Label)
        → (let p : DrawingParts = record { symbols = symbols; opening = opening; drawing = record { strokes = strokes; labels = labels } } in p)
        ≡ drawn_parts (record { symbols = symbols; opening = opening; drawing = record { strokes = strokes; labels = labels } }) place [] 0 opening
    same symbols None strokes labels =
        ap (λ (l : List CifStroke). record { symbols = symbols; opening = None; drawing = record { strokes = l; labels = labels } }) (sym (append_nil strokes))
    same symbols (Some s) strokes labels =
        ap (λ (c : CifSymbol). record { symbols = symbols; opening = Some c; drawing = record { strokes = strokes; labels = labels } })
        (ap (λ (l : List BoxShape). record { number = s.number; boxes = l; chain = s.chain }) (sym (append_nil s.boxes))
        ∙ ap (λ (n : ℕ). record { number = s.number; boxes = s.boxes ++ []; chain = n }) (sym (max_none s.chain)))

-- ---- a definition that is closed

strokes_stay : (symbols : List Symbol) (s : Symbol) (strokes : List StrokeShape) → AreStrokes (closed_symbols symbols) strokes
    → strokes_of (symbols ++ s ∷ []) strokes ≡ strokes_of symbols strokes
strokes_stay symbols s strokes h =
    let closed : List CifSymbol = closed_symbols symbols in
    ap (λ (l : List CifSymbol). map (cif_stroke l) strokes) (one_more symbols s)
    ∙ map_alike (cif_stroke (with_symbol closed s)) (cif_stroke closed) strokes
    (λ stroke i. ap (λ (l : List BoxShape). record { place = stroke.place; boxes = l }) (ink_stays closed (cif_symbol closed s ∷ []) stroke.ink (h stroke i).ink))

pub closed_holds : (symbols : List Symbol) (s : Symbol) (strokes : List StrokeShape) → IsBuilding symbols (Some s) strokes → IsBuilding (symbols ++ s ∷ []) None strokes
closed_holds symbols s strokes h =
    let closed : List CifSymbol = closed_symbols symbols in
    let P : List CifSymbol → Type 0 = λ l. AreStrokes l strokes in
    record {
      drawing = record {
        symbols = symbols_more [] symbols s h.drawing.symbols h.opening.0;
        strokes = subst P (sym (one_more symbols s)) (λ stroke i. ink_of_still closed (cif_symbol closed s ∷ []) 64 stroke.ink (h.drawing.strokes stroke i));
      };
      opening = tt;
    }

pub closed_same : (symbols : List Symbol) (s : Symbol) (strokes : List StrokeShape) (labels : List Label) → IsBuilding symbols (Some s) strokes
    → parts_of (symbols ++ s ∷ []) None strokes labels ≡ closed_parts (parts_of symbols (Some s) strokes labels) (open_symbol (closed_symbols symbols) (Some s))
closed_same symbols s strokes labels h =
    let closed : List CifSymbol = closed_symbols symbols in
    ap (λ (l : List CifSymbol). record { symbols = reverse l; opening = None; drawing = drawing_of (symbols ++ s ∷ []) strokes labels }) (one_more symbols s)
    ∙ (ap (λ (l : List CifSymbol). record { symbols = l; opening = None; drawing = drawing_of (symbols ++ s ∷ []) strokes labels }) (reverse-append closed (cif_symbol closed s ∷ []))
    ∙ ap (λ (l : List CifStroke). record { symbols = cif_symbol closed s ∷ reverse closed; opening = None; drawing = record { strokes = l; labels = labels } })
    (strokes_stay symbols s strokes h.drawing.strokes))

-- ---- the symbol that an index names

-- What is known of a symbol that is found, and of the chain of its call.
pub record IsFound (symbols : List Symbol) (number k : ℕ) (s : Symbol) (chain : ℕ) : Type 0 where
  pub all : AreSymbols [] symbols
  pub index : IsIndex symbols number k
  pub is : s ≡ get_or symbols k s
  pub chain_of : chain ≡ cond (length s.inks.items == 0) 0 (s.chain + 1)

found_stands : (symbols : List Symbol) (number k : ℕ) (s : Symbol) (chain : ℕ) → IsFound symbols number k s chain → StandsAt (closed_symbols symbols) k s
found_stands symbols number k s chain h = index_stands symbols k s h.index.within h.is h.all

found_chain : (symbols : List Symbol) (number k : ℕ) (s : Symbol) (chain : ℕ) → IsFound symbols number k s chain
    → chain ≡ chain_if_drawn (symbol_at (closed_symbols symbols) k).boxes (symbol_at (closed_symbols symbols) k).chain
found_chain symbols number k s chain h = h.chain_of ∙ sym (chain_is (closed_symbols symbols) k s (found_stands symbols number k s chain h))

pub found_short : (symbols : List Symbol) (k : ℕ) (s : Symbol) → k < length symbols → s ≡ get_or symbols k s → AreSymbols [] symbols → s.chain ≤ 64
found_short symbols k s h e a = (index_stands symbols k s h e a).symbol.short

pub part_chain_some : (symbols : List Symbol) (number k : ℕ) (s : Symbol) (chain : ℕ) → IsFound symbols number k s chain
    → Some chain ≡ part_chain (found (reverse (closed_symbols symbols)) number)
part_chain_some symbols number k s chain h =
    ap (λ (n : ℕ). Some n) (found_chain symbols number k s chain h) ∙ ap part_chain (sym (index_found symbols number k h.all h.index))

pub part_chain_none : (symbols : List Symbol) (number : ℕ) → AreSymbols [] symbols → IsIndexOf symbols number None
    → None ≡ part_chain (found (reverse (closed_symbols symbols)) number)
part_chain_none symbols number a h = ap part_chain (sym (none_found symbols number a h))

pub called_ink : (symbols : List Symbol) (number k : ℕ) (s : Symbol) (p : Placement) (chain : ℕ) → IsFound symbols number k s chain → chain ≢ 0 → IsNear (2 ^ 103) p.by
    → IsCall (closed_symbols symbols) (record { symbol = k; placement = p })
called_ink symbols number k s p chain h some near =
    new_call (closed_symbols symbols) (record { symbol = k; placement = p }) chain (omega (arith, length_closed [] symbols, h.index.within))
    (found_chain symbols number k s chain h) some near

nothing_of : (boxes : List BoxShape) (n : ℕ) → chain_if_drawn boxes n ≡ 0 → boxes ≡ []
nothing_of [] n e = refl
nothing_of (b ∷ bs) n e = absurd (omega arith)

pub called_nothing : (parts : DrawingParts) (place : Place) (steps : List Step) (symbols : List Symbol) (number k : ℕ) (s : Symbol) (chain : ℕ) → IsFound symbols number k s chain
    → chain ≡ 0 → parts ≡ drawn_parts parts place (stepped_boxes steps (part_boxes (found (reverse (closed_symbols symbols)) number)))
    (chain_or_none (found (reverse (closed_symbols symbols)) number)) parts.opening
called_nothing parts place steps symbols number k s chain h none =
    let x : CifSymbol = symbol_at (closed_symbols symbols) k in
    let P : Option CifSymbol → Type 0 = λ o. parts ≡ drawn_parts parts place (stepped_boxes steps (part_boxes o)) (chain_or_none o) parts.opening in
    let e : chain_if_drawn x.boxes x.chain ≡ 0 = sym (found_chain symbols number k s chain h) ∙ none in
    subst P (sym (index_found symbols number k h.all h.index))
    (drawn_nothing parts place (stepped_boxes steps x.boxes) (chain_if_drawn x.boxes x.chain) parts.opening refl (ap (stepped_boxes steps) (nothing_of x.boxes x.chain e)) e)

pub called_draws : (symbols : List Symbol) (opening opening' : Option Symbol) (strokes strokes' : List StrokeShape) (labels : List Label) (place : Place) (number k : ℕ) (s : Symbol)
    (p : Placement) (steps : List Step) (measure : Option Measure) (chain : ℕ) → IsBuilding symbols opening strokes → IsFound symbols number k s chain → chain ≢ 0
    → chain_or_none (found (reverse (closed_symbols symbols)) number) ≤ 64 → IsNear (2 ^ 103) p.by → ((b : BoxShape) → IsOrdered b → placed p b ≡ fold step_box b steps)
    → IsMeasure (ink_chain (closed_symbols symbols) (Called (record { symbol = k; placement = p }))) measure
    (ink_boxes (closed_symbols symbols) (Called (record { symbol = k; placement = p })))
    → IsAdded opening strokes place (Called (record { symbol = k; placement = p })) measure chain opening' strokes'
    → Draws symbols opening strokes labels place (stepped_boxes steps (part_boxes (found (reverse (closed_symbols symbols)) number)))
    (chain_or_none (found (reverse (closed_symbols symbols)) number)) opening' strokes'
called_draws symbols opening opening' strokes strokes' labels place number k s p steps measure chain b h some short near still m a =
    let closed : List CifSymbol = closed_symbols symbols in
    let x : CifSymbol = symbol_at closed k in
    let call : Call = record { symbol = k; placement = p } in
    let f : found (reverse closed) number ≡ Some x = index_found symbols number k h.all h.index in
    let e : chain ≡ chain_if_drawn x.boxes x.chain = found_chain symbols number k s chain h in
    let few : chain ≤ 64 = omega (arith, e, short, ap chain_or_none f) in
    let is : IsCall closed call = called_ink symbols number k s p chain h some near in
    let d = added_draws symbols opening opening' strokes strokes' labels place (Called call) measure chain b (new_ink closed call chain measure is e few m) a in
    let P : Option CifSymbol → Type 0 = λ o. Draws symbols opening strokes labels place (stepped_boxes steps (part_boxes o)) (chain_or_none o) opening' strokes' in
    let Q : List BoxShape → Type 0 = λ l. Draws symbols opening strokes labels place l (chain_if_drawn x.boxes x.chain) opening' strokes' in
    let R : ℕ → Type 0 = λ n. Draws symbols opening strokes labels place (map (placed p) x.boxes) n opening' strokes' in
    subst P (sym f) (subst Q (stepped_same closed k s p steps (found_stands symbols number k s chain h) still) (subst R e d))

pub closed_draws : (symbols symbols' : List Symbol) (opening opening' : Option Symbol) (s : Symbol) (strokes : List StrokeShape) (labels : List Label) → opening ≡ Some s
    → opening' ≡ None → symbols' ≡ symbols ++ s ∷ [] → IsBuilding symbols opening strokes
    → parts_of symbols' opening' strokes labels ≡ closed_parts (parts_of symbols opening strokes labels) (open_symbol (closed_symbols symbols) opening)
closed_draws symbols symbols' opening opening' s strokes labels e f g h =
    let P : Option Symbol → Type 0 = λ o. IsBuilding symbols o strokes in
    let Q : Option Symbol → Type 0 =
    λ o. parts_of (symbols ++ s ∷ []) None strokes labels ≡ closed_parts (parts_of symbols o strokes labels) (open_symbol (closed_symbols symbols) o) in
    ap (λ (l : List Symbol). parts_of l opening' strokes labels) g
    ∙ (ap (λ (o : Option Symbol). parts_of (symbols ++ s ∷ []) o strokes labels) f ∙ subst Q (sym e) (closed_same symbols s strokes labels (subst P e h)))

pub closed_keeps : (symbols symbols' : List Symbol) (opening opening' : Option Symbol) (s : Symbol) (strokes : List StrokeShape) → opening ≡ Some s → opening' ≡ None
    → symbols' ≡ symbols ++ s ∷ [] → IsBuilding symbols opening strokes → IsBuilding symbols' opening' strokes
closed_keeps symbols symbols' opening opening' s strokes e f g h =
    let P : Option Symbol → Type 0 = λ o. IsBuilding symbols o strokes in
    let Q : Option Symbol → Type 0 = λ o. IsBuilding symbols' o strokes in
    let R : List Symbol → Type 0 = λ l. IsBuilding l None strokes in
    subst Q (sym f) (subst R (sym g) (closed_holds symbols s strokes (subst P e h)))

pub dropped_keeps : (symbols symbols' : List Symbol) (opening opening' : Option Symbol) (strokes : List StrokeShape) → opening' ≡ None → symbols' ≡ symbols
    → IsBuilding symbols opening strokes → IsBuilding symbols' opening' strokes
dropped_keeps symbols symbols' opening opening' strokes f g h =
    let Q : Option Symbol → Type 0 = λ o. IsBuilding symbols' o strokes in
    let R : List Symbol → Type 0 = λ l. IsBuilding l None strokes in
    subst Q (sym f) (subst R (sym g) (record { drawing = h.drawing; opening = tt }))
