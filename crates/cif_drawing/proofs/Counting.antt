-- The strokes so far.
use Rattle.std.proofs.Common.{◌≡◌, ℕ, ◌+◌, ◌<◌, ◌≤◌, true, List, [], ◌∷◌, ◌++◌, length, get_or, take, drop, map, inl, inr, refl, sym, ◌∙◌, ap, subst, length-append, arith}
use Rattle.std.specs.List.{list_all}
use Rattle.std.proofs.lemmas.List.{map-append, take_all}
use Rattle.std.proofs.lemmas.List.Folds.{list_all-append}
use Rattle.geom.specs.Squares.{BoxShape, IsBox}
use Rattle.geom.specs.Rows.{Among}
use Rattle.geom.specs.CifDrawings.{CifStroke}
use Rattle.geom.specs.CifRefusals.{stroke_boxes, NoStrokeFault}
use Rattle.cif_drawing.specs.declared.ink.Symbol.{Symbol}
use Rattle.cif_drawing.specs.Shapes.{StrokeShape}
use Rattle.cif_drawing.specs.declared.placement.Placement.{Placement}
use Rattle.cif_drawing.specs.declared.flattening.FlattenFault.{FlattenFault}
use Rattle.cif_drawing.specs.Placements.{IsOrdered, placed}
use Rattle.cif_drawing.specs.Measures.{is_box}
use Rattle.cif_drawing.specs.Inks.{closed_symbols, ink_boxes, cif_stroke, strokes_of}
use Rattle.cif_drawing.specs.Flattening.{IsFlattenFault, IsCountOf, IsFaultOf}
use Rattle.cif_drawing.proofs.Lists.{map_alike, taken_item, parted_item}
use Rattle.cif_drawing.proofs.Tests.{and_true, and_left, and_right, all_boxes, ordered_box}
use Rattle.cif_drawing.proofs.Refusing.{boxes_more, clear_more, clear_stroke, refused}

-- No code stands at the strokes, and this is the number of their boxes.
pub record Counted (symbols : List Symbol) (strokes : List StrokeShape) (count : ℕ) : Type 0 where
  pub count_is : count ≡ length (stroke_boxes (strokes_of symbols strokes))
  pub few : count ≤ 8000000
  pub clear : NoStrokeFault [] (strokes_of symbols strokes)
  pub within : list_all is_box (stroke_boxes (strokes_of symbols strokes)) ≡ true

strokes_one : (symbols : List Symbol) (strokes : List StrokeShape) (s : StrokeShape) → strokes_of symbols (strokes ++ s ∷ []) ≡ strokes_of symbols strokes ++ cif_stroke (closed_symbols symbols) s ∷ []
strokes_one symbols strokes s = map-append (cif_stroke (closed_symbols symbols)) strokes (s ∷ [])

pub boxes_one : (symbols : List Symbol) (strokes : List StrokeShape) (s : StrokeShape)
    → stroke_boxes (strokes_of symbols (strokes ++ s ∷ [])) ≡ stroke_boxes (strokes_of symbols strokes) ++ ink_boxes (closed_symbols symbols) s.ink
boxes_one symbols strokes s = ap stroke_boxes (strokes_one symbols strokes s) ∙ boxes_more (strokes_of symbols strokes) (cif_stroke (closed_symbols symbols) s)

counted_more : (symbols : List Symbol) (strokes : List StrokeShape) (s : StrokeShape) (count more : ℕ) → Counted symbols strokes count
    → IsCountOf count (cif_stroke (closed_symbols symbols) s) more → Counted symbols (strokes ++ s ∷ []) (count + more)
counted_more symbols strokes s count more h k =
    let before : List CifStroke = strokes_of symbols strokes in
    let stroke : CifStroke = cif_stroke (closed_symbols symbols) s in
    let P : List CifStroke → Type 0 = λ l. NoStrokeFault [] l in
    record {
      count_is = omega (arith, h.count_is, k.count_is, length-append (stroke_boxes before) stroke.boxes, ap length (boxes_one symbols strokes s));
      few = k.few;
      clear = subst P (sym (strokes_one symbols strokes s)) (clear_more [] before stroke h.clear (clear_stroke before stroke count more h.count_is k));
      within =
          ap (list_all is_box) (boxes_one symbols strokes s)
          ∙ (list_all-append is_box (stroke_boxes before) stroke.boxes ∙ and_true (list_all is_box (stroke_boxes before)) (list_all is_box stroke.boxes) h.within k.within);
    }

pub counted_next : (symbols : List Symbol) (strokes : List StrokeShape) (i : ℕ) (s : StrokeShape) (count more : ℕ) → i < length strokes → s ≡ get_or strokes i s
    → Counted symbols (take i strokes) count → IsCountOf count (cif_stroke (closed_symbols symbols) s) more → Counted symbols (take (i + 1) strokes) (count + more)
counted_next symbols strokes i s count more l e h k =
    let P : List StrokeShape → Type 0 = λ v. Counted symbols v (count + more) in
    subst P (sym (taken_item strokes i s l e)) (counted_more symbols (take i strokes) s count more h k)

pub counted_all : (symbols : List Symbol) (strokes : List StrokeShape) (i : ℕ) (count : ℕ) → length strokes ≤ i → Counted symbols (take i strokes) count → Counted symbols strokes count
counted_all symbols strokes i count l h = let P : List StrokeShape → Type 0 = λ v. Counted symbols v count in subst P (take_all i strokes l) h

pub counted_refused : (symbols : List Symbol) (strokes : List StrokeShape) (i : ℕ) (s : StrokeShape) (count : ℕ) (fault : FlattenFault) → i < length strokes → s ≡ get_or strokes i s
    → Counted symbols (take i strokes) count → IsFaultOf count (cif_stroke (closed_symbols symbols) s) fault → IsFlattenFault (strokes_of symbols strokes) fault
counted_refused symbols strokes i s count fault l e h k =
    let P : List CifStroke → Type 0 = λ v. IsFlattenFault v fault in
    subst P (sym (parted symbols strokes i s l e))
    (refused (strokes_of symbols (take i strokes)) (strokes_of symbols (drop (i + 1) strokes)) (cif_stroke (closed_symbols symbols) s) count fault h.count_is h.clear k)
  where
    parted : (symbols : List Symbol) (strokes : List StrokeShape) (i : ℕ) (s : StrokeShape) → i < length strokes → s ≡ get_or strokes i s
        → strokes_of symbols strokes ≡ strokes_of symbols (take i strokes) ++ cif_stroke (closed_symbols symbols) s ∷ strokes_of symbols (drop (i + 1) strokes)
    parted symbols strokes i s l e =
        ap (strokes_of symbols) (parted_item strokes i s l e)
        ∙ map-append (cif_stroke (closed_symbols symbols)) (take i strokes) (s ∷ drop (i + 1) strokes)

-- ---- boxes that are listed

stroke_within : (strokes : List CifStroke) (s : CifStroke) → list_all is_box (stroke_boxes strokes) ≡ true → Among strokes s → list_all is_box s.boxes ≡ true
stroke_within [] s h a = absurd a
stroke_within (t ∷ ts) s h (inl e) =
    ap (λ (v : CifStroke). list_all is_box v.boxes) (sym e)
    ∙ and_left (list_all is_box t.boxes) (list_all is_box (stroke_boxes ts)) (sym (list_all-append is_box t.boxes (stroke_boxes ts)) ∙ h)
stroke_within (t ∷ ts) s h (inr a) =
    stroke_within ts s (and_right (list_all is_box t.boxes) (list_all is_box (stroke_boxes ts)) (sym (list_all-append is_box t.boxes (stroke_boxes ts)) ∙ h)) a

map_among : (symbols : List Symbol) (strokes : List StrokeShape) (s : StrokeShape) → Among strokes s → Among (strokes_of symbols strokes) (cif_stroke (closed_symbols symbols) s)
map_among symbols [] s a = absurd a
map_among symbols (t ∷ ts) s (inl e) = inl (ap (cif_stroke (closed_symbols symbols)) e)
map_among symbols (t ∷ ts) s (inr a) = inr (map_among symbols ts s a)

pub ink_within : (symbols : List Symbol) (strokes : List StrokeShape) (s : StrokeShape) → list_all is_box (stroke_boxes (strokes_of symbols strokes)) ≡ true → Among strokes s
    → list_all is_box (ink_boxes (closed_symbols symbols) s.ink) ≡ true
ink_within symbols strokes s h a = stroke_within (strokes_of symbols strokes) (cif_stroke (closed_symbols symbols) s) h (map_among symbols strokes s a)

-- boxes that are not moved
pub still_same : (p : Placement) (boxes : List BoxShape) → ((b : BoxShape) → IsOrdered b → placed p b ≡ b) → list_all is_box boxes ≡ true
    → map (placed p) boxes ≡ boxes
still_same p boxes h w = map_alike (placed p) (λ (b : BoxShape). b) boxes (λ b i. h b (ordered_box b (all_boxes boxes w b i))) ∙ same boxes
  where
    same : (bs : List BoxShape) → map (λ (b : BoxShape). b) bs ≡ bs
    same [] = refl
    same (b ∷ bs) = ap (λ (l : List BoxShape). b ∷ l) (same bs)

pub listed_next : (symbols : List Symbol) (strokes : List StrokeShape) (i : ℕ) (s : StrokeShape) (p : Placement) (old new : List BoxShape) → i < length strokes → s ≡ get_or strokes i s
    → ((b : BoxShape) → IsOrdered b → placed p b ≡ b) → list_all is_box (ink_boxes (closed_symbols symbols) s.ink) ≡ true
    → old ≡ stroke_boxes (strokes_of symbols (take i strokes)) → new ≡ old ++ map (placed p) (ink_boxes (closed_symbols symbols) s.ink)
    → new ≡ stroke_boxes (strokes_of symbols (take (i + 1) strokes))
listed_next symbols strokes i s p old new l e still w h k =
    k ∙ (ap (λ (v : List BoxShape). old ++ v) (still_same p (ink_boxes (closed_symbols symbols) s.ink) still w)
    ∙ (ap (λ (v : List BoxShape). v ++ ink_boxes (closed_symbols symbols) s.ink) h
    ∙ (sym (boxes_one symbols (take i strokes) s) ∙ ap (λ (v : List StrokeShape). stroke_boxes (strokes_of symbols v)) (sym (taken_item strokes i s l e)))))

pub listed_within : (symbols : List Symbol) (strokes : List StrokeShape) (i : ℕ) (boxes : List BoxShape) → length strokes ≤ i
    → boxes ≡ stroke_boxes (strokes_of symbols (take i strokes)) → list_all is_box (stroke_boxes (strokes_of symbols strokes)) ≡ true
    → (b : BoxShape) → Among boxes b → IsBox b
listed_within symbols strokes i boxes l h w =
    all_boxes boxes (ap (list_all is_box) (h ∙ ap (λ (v : List StrokeShape). stroke_boxes (strokes_of symbols v)) (take_all i strokes l)) ∙ w)
