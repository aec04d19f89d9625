-- The boxes of a polygon cover its inside.
use Rattle.std.proofs.Common.{◌≡◌, ◌⊎◌, inl, inr, ℕ, ◌+◌, ◌%◌, ◌==◌, ◌↔◌, Bool, true, false, cond, ◌&&◌, IsTrue, ℤ, pos, ◌-ℤ◌, ◌≤ℤ◌, ◌<ℤ◌, int_lt, int_le, List, [], ◌∷◌, ◌++◌, refl, sym, ◌∙◌, ap, subst, arith}
use Rattle.std.specs.List.{count_by}
use Rattle.std.specs.Int.{int_min, int_max}
use Rattle.std.proofs.lemmas.Int.{ints, clamps, by_lt_z}
use Rattle.geom.specs.declared.layer.Layer.{Layer}
use Rattle.geom.specs.declared.point.Point.{Point}
use Rattle.geom.specs.Squares.{BoxShape, Inside}
use Rattle.geom.specs.Rows.{Squares, Among, Pairwise, Over}
use Rattle.geom.specs.CifShapes.{Segment, segments_from, polygon_sides, meets_ray, is_zero, is_inside_polygon, InPolygon, AreHeights, AreStripRuns, AreStrips, ArePolygonBoxes}
use Rattle.cif_shapes.proofs.Lists.{among_cases, among_left, among_right}
use Rattle.cif_shapes.proofs.Integers.{le_true, le_false, lt_true, lt_false}
use Rattle.cif_shapes.proofs.Rays.{count_cons, one_if}

-- ---- rows between two heights meet the same sides

-- no point is between the lower height and the row, nor in the row's height
abbrev Apart : List Point → ℤ → ℤ → Type 0
Apart points low y = (p : Point) → Among points p → (p.y ≤ℤ low) ⊎ (y <ℤ p.y)

-- the ends of a side
record EndsApart (low y : ℤ) (s : Segment) : Type 0 where
  start : (s.start.y ≤ℤ low) ⊎ (y <ℤ s.start.y)
  stop : (s.stop.y ≤ℤ low) ⊎ (y <ℤ s.stop.y)

same_le : (a b low y : ℤ) → low ≤ℤ y → (a ≤ℤ low) ⊎ (y <ℤ a) → (b ≤ℤ low) ⊎ (y <ℤ b) → int_le (int_min a b) y ≡ int_le (int_min a b) low
same_le a b low y h (inl k) l = le_true (int_min a b) y (omega (arith, ints, clamps)) ∙ sym (le_true (int_min a b) low (omega (arith, ints, clamps)))
same_le a b low y h (inr k) (inl l) = le_true (int_min a b) y (omega (arith, ints, clamps)) ∙ sym (le_true (int_min a b) low (omega (arith, ints, clamps)))
same_le a b low y h (inr k) (inr l) = le_false (int_min a b) y (omega (arith, ints, clamps)) ∙ sym (le_false (int_min a b) low (omega (arith, ints, clamps)))

same_lt : (a b low y : ℤ) → low ≤ℤ y → (a ≤ℤ low) ⊎ (y <ℤ a) → (b ≤ℤ low) ⊎ (y <ℤ b) → int_lt y (int_max a b) ≡ int_lt low (int_max a b)
same_lt a b low y h (inr k) l = lt_true y (int_max a b) (omega (arith, ints, clamps)) ∙ sym (lt_true low (int_max a b) (omega (arith, ints, clamps)))
same_lt a b low y h (inl k) (inr l) = lt_true y (int_max a b) (omega (arith, ints, clamps)) ∙ sym (lt_true low (int_max a b) (omega (arith, ints, clamps)))
same_lt a b low y h (inl k) (inl l) = lt_false y (int_max a b) (omega (arith, ints, clamps)) ∙ sym (lt_false low (int_max a b) (omega (arith, ints, clamps)))

same_met : (x low y : ℤ) (s : Segment) → low ≤ℤ y → EndsApart low y s → meets_ray x y s ≡ meets_ray x low s
same_met x low y s h e =
    let t : Bool = is_zero (s.stop.x -ℤ s.start.x) && int_lt x s.start.x in
    ap (λ (b : Bool). (t && b) && int_lt y (int_max s.start.y s.stop.y)) (same_le s.start.y s.stop.y low y h e.start e.stop)
    ∙ ap (λ (b : Bool). (t && int_le (int_min s.start.y s.stop.y) low) && b) (same_lt s.start.y s.stop.y low y h e.start e.stop)

same_count : (x low y : ℤ) (ss : List Segment) → low ≤ℤ y → ((s : Segment) → Among ss s → EndsApart low y s)
    → count_by (meets_ray x y) ss ≡ count_by (meets_ray x low) ss
same_count x low y [] h e = refl
same_count x low y (s ∷ ss) h e =
    count_cons (meets_ray x y) s ss ∙ (ap (λ (b : Bool). one_if b + count_by (meets_ray x y) ss) (same_met x low y s h (e s (inl refl)))
    ∙ (ap (λ (n : ℕ). one_if (meets_ray x low s) + n) (same_count x low y ss h (λ t i. e t (inr i))) ∙ sym (count_cons (meets_ray x low) s ss)))

-- a side's ends are points
record EndsAmong (points : List Point) (s : Segment) : Type 0 where
  start : Among points s.start
  stop : Among points s.stop

more_points : (p : Point) (ps : List Point) (s : Segment) → EndsAmong ps s → EndsAmong (p ∷ ps) s
more_points p ps s e = record { start = inr e.start; stop = inr e.stop }

segment_among : (p : Point) (ps : List Point) (s : Segment) → Among (segments_from p ps) s → EndsAmong (p ∷ ps) s
segment_among p [] s i = absurd i
segment_among p (q ∷ qs) s (inl e) =
    let P : Segment → Type 0 = λ t. EndsAmong (p ∷ q ∷ qs) t in subst P e (record { start = inl refl; stop = inr (inl refl) })
segment_among p (q ∷ qs) s (inr i) = more_points p (q ∷ qs) s (segment_among q qs s i)

side_among : (points : List Point) (s : Segment) → Among (polygon_sides points) s → EndsAmong points s
side_among [] s i = absurd i
side_among (p ∷ ps) s i =
    let e = segment_among p (ps ++ p ∷ []) s i in record { start = closed s.start e.start; stop = closed s.stop e.stop }
  where
    closed : (q : Point) → Among (p ∷ ps ++ p ∷ []) q → Among (p ∷ ps) q
    closed q (inl e) = inl e
    closed q (inr i) = elim (among_cases ps (p ∷ []) q i) [ inl j ↦ inr j | inr j ↦ elim j [ inl e ↦ inl e | inr n ↦ absurd n ] ]

-- a row between two heights has the squares of the lower one
same_row : (points : List Point) (x low y : ℤ) → low ≤ℤ y → Apart points low y → InPolygon points x y ≡ InPolygon points x low
same_row points x low y h apart =
    ap (λ (n : ℕ). IsTrue (n % 2 == 1))
    (same_count x low y (polygon_sides points) h
    (λ s i. let e = side_among points s i in record { start = apart s.start e.start; stop = apart s.stop e.stop }))

-- ---- rows below and above all points

none_met : (x y : ℤ) (ss : List Segment) → ((s : Segment) → Among ss s → meets_ray x y s ≡ false) → count_by (meets_ray x y) ss ≡ 0
none_met x y [] h = refl
none_met x y (s ∷ ss) h =
    count_cons (meets_ray x y) s ss ∙ (ap (λ (b : Bool). one_if b + count_by (meets_ray x y) ss) (h s (inl refl))
    ∙ omega (arith, none_met x y ss (λ t i. h t (inr i))))

never : (b : Bool) → (b && false) ≡ false
never true = refl
never false = refl

never_then : (b c : Bool) → ((b && false) && c) ≡ false
never_then true c = refl
never_then false c = refl

outside : (points : List Point) (x y : ℤ) → count_by (meets_ray x y) (polygon_sides points) ≡ 0 → InPolygon points x y → ⊥
outside points x y e w = let z : false ≡ true = sym (ap (λ (n : ℕ). n % 2 == 1) e) ∙ w in cc

below_all : (points : List Point) (x y : ℤ) → ((p : Point) → Among points p → y <ℤ p.y) → InPolygon points x y → ⊥
below_all points x y h =
    outside points x y (none_met x y (polygon_sides points) (λ s i.
    let e = side_among points s i in
    let a : y <ℤ s.start.y = h s.start e.start in
    let b : y <ℤ s.stop.y = h s.stop e.stop in
    let t : Bool = is_zero (s.stop.x -ℤ s.start.x) && int_lt x s.start.x in
    ap (λ (v : Bool). (t && v) && int_lt y (int_max s.start.y s.stop.y)) (le_false (int_min s.start.y s.stop.y) y (omega (arith, ints, clamps)))
    ∙ never_then t (int_lt y (int_max s.start.y s.stop.y))))

above_all : (points : List Point) (x y : ℤ) → ((p : Point) → Among points p → p.y ≤ℤ y) → InPolygon points x y → ⊥
above_all points x y h =
    outside points x y (none_met x y (polygon_sides points) (λ s i.
    let e = side_among points s i in
    let a : s.start.y ≤ℤ y = h s.start e.start in
    let b : s.stop.y ≤ℤ y = h s.stop e.stop in
    let t : Bool = (is_zero (s.stop.x -ℤ s.start.x) && int_lt x s.start.x) && int_le (int_min s.start.y s.stop.y) y in
    ap (λ (v : Bool). t && v) (lt_false y (int_max s.start.y s.stop.y) (omega (arith, ints, clamps))) ∙ never t))

-- ---- strip by strip

-- Of all heights those that are left are these, and the others are no higher than the first of them.
abbrev Known : List Point → ℤ → List ℤ → Type 0
Known points low heights = (p : Point) → Among points p → (p.y ≤ℤ low) ⊎ Among heights p.y

next_known : (points : List Point) (low high : ℤ) (heights : List ℤ) → low <ℤ high → Known points low (high ∷ heights) → Known points high heights
next_known points low high heights h k p i =
    elim (k p i) [ inl l ↦ inl (omega (arith, ints, l)) | inr j ↦ elim j [ inl e ↦ inl (omega (arith, ints, e)) | inr m ↦ inr m ] ]

apart_of : (points : List Point) (low high : ℤ) (heights : List ℤ) (y : ℤ) → Pairwise (λ a b. a <ℤ b) (high ∷ heights) → y <ℤ high
    → Known points low (high ∷ heights) → Apart points low y
apart_of points low high heights y up h k p i =
    elim (k p i) [
      | inl l ↦ inl l
      | inr j ↦ elim j [ inl e ↦ inr (omega (arith, ints, e)) | inr m ↦ (let g : high <ℤ p.y = up.0 p.y m in inr (omega (arith, ints, g))) ]
    ]

over_cases : (m n : List BoxShape) (x y : ℤ) → Over (m ++ n) x y → Over m x y ⊎ Over n x y
over_cases [] n x y h = inr h
over_cases (b ∷ bs) n x y (inl i) = inl (inl i)
over_cases (b ∷ bs) n x y (inr h) = elim (over_cases bs n x y h) [ inl i ↦ inl (inr i) | inr i ↦ inr i ]

over_left : (m n : List BoxShape) (x y : ℤ) → Over m x y → Over (m ++ n) x y
over_left [] n x y h = absurd h
over_left (b ∷ bs) n x y (inl i) = inl i
over_left (b ∷ bs) n x y (inr h) = inr (over_left bs n x y h)

over_right : (m n : List BoxShape) (x y : ℤ) → Over n x y → Over (m ++ n) x y
over_right [] n x y h = h
over_right (b ∷ bs) n x y h = inr (over_right bs n x y h)

over_box : (m : List BoxShape) (x y : ℤ) → Over m x y → (b : BoxShape) × Among m b × Inside b x y
over_box [] x y h = absurd h
over_box (b ∷ bs) x y (inl i) = (b, inl refl, i)
over_box (b ∷ bs) x y (inr h) = let f = over_box bs x y h in (f.0, inr f.1, f.2)

box_over : (m : List BoxShape) (x y : ℤ) (b : BoxShape) → Among m b → Inside b x y → Over m x y
box_over [] x y b i h = absurd i
box_over (c ∷ cs) x y b (inl e) h = inl (let P : BoxShape → Type 0 = λ v. Inside v x y in subst P (sym e) h)
box_over (c ∷ cs) x y b (inr i) h = inr (box_over cs x y b i h)

strip_inside : (points : List Point) (layer : Layer) (low high : ℤ) (heights : List ℤ) (runs : List BoxShape) (x y : ℤ) → Pairwise (λ a b. a <ℤ b) (high ∷ heights)
    → Known points low (high ∷ heights) → AreStripRuns (InPolygon points) layer low high runs → Over runs x y → InPolygon points x y
strip_inside points layer low high heights runs x y up k r h =
    let f = over_box runs x y h in
    let s = r.each f.0 f.1 in
    let above : low ≤ℤ y = omega (arith, ints, s.bottom, f.2.bottom) in
    let under : y <ℤ high = omega (arith, ints, s.top, f.2.top) in
    subst (λ (P : Type 0). P) (sym (same_row points x low y above (apart_of points low high heights y up under k))) (s.run.covered x f.2.left f.2.right)

strip_covers : (points : List Point) (layer : Layer) (low high : ℤ) (heights : List ℤ) (runs : List BoxShape) (x y : ℤ) → Pairwise (λ a b. a <ℤ b) (high ∷ heights)
    → Known points low (high ∷ heights) → AreStripRuns (InPolygon points) layer low high runs → low ≤ℤ y → y <ℤ high → InPolygon points x y → Over runs x y
strip_covers points layer low high heights runs x y up k r above under w =
    let f = r.covers x (subst (λ (P : Type 0). P) (same_row points x low y above (apart_of points low high heights y up under k)) w) in
    let s = r.each f.0 f.1 in
    box_over runs x y f.0 f.1 (record {
      left = f.2;
      right = f.3;
      bottom = omega (arith, ints, s.bottom);
      top = omega (arith, ints, s.top);
    })

boxes_inside : (points : List Point) (layer : Layer) (low : ℤ) (heights : List ℤ) (boxes : List BoxShape) (x y : ℤ) → Pairwise (λ a b. a <ℤ b) (low ∷ heights)
    → Known points low heights → AreStrips (InPolygon points) layer (low ∷ heights) boxes → Over boxes x y → InPolygon points x y
boxes_inside points layer low [] boxes x y up k s h = let P : List BoxShape → Type 0 = λ l. Over l x y in absurd (subst P s h)
boxes_inside points layer low (high ∷ heights) boxes x y up k s h =
    let P : List BoxShape → Type 0 = λ l. Over l x y in
    elim (over_cases s.0 s.1 x y (subst P s.2 h)) [
      | inl i ↦ strip_inside points layer low high heights s.0 x y up.1 k s.3 i
      | inr i ↦ boxes_inside points layer high heights s.1 x y up.1 (next_known points low high heights (up.0 high (inl refl)) k) s.4 i
    ]

boxes_cover : (points : List Point) (layer : Layer) (low : ℤ) (heights : List ℤ) (boxes : List BoxShape) (x y : ℤ) → Pairwise (λ a b. a <ℤ b) (low ∷ heights)
    → Known points low heights → AreStrips (InPolygon points) layer (low ∷ heights) boxes → low ≤ℤ y → InPolygon points x y → Over boxes x y
boxes_cover points layer low [] boxes x y up k s above w =
    absurd (above_all points x y (λ p i. elim (k p i) [ inl l ↦ omega (arith, ints, l) | inr j ↦ absurd j ]) w)
boxes_cover points layer low (high ∷ heights) boxes x y up k s above w =
    let P : List BoxShape → Type 0 = λ l. Over l x y in
    subst P (sym s.2) (by_lt_z y high
    (λ l. over_left s.0 s.1 x y (strip_covers points layer low high heights s.0 x y up.1 k s.3 above l w))
    (λ l. over_right s.0 s.1 x y
    (boxes_cover points layer high heights s.1 x y up.1 (next_known points low high heights (up.0 high (inl refl)) k) s.4 l w)))

-- The boxes cover the squares inside and no others.
pub covered : (layer : Layer) (points : List Point) (boxes : List BoxShape) → ArePolygonBoxes layer points boxes → (x y : ℤ) → Over boxes x y ↔ InPolygon points x y
covered layer points boxes a x y = from a.heights a.are_heights a.strips
  where
    known : (low : ℤ) (heights : List ℤ) → AreHeights points (low ∷ heights) → Known points low heights
    known low heights h p i = elim ((h.of_points p.y).1 (p, i, refl)) [ inl e ↦ inl (omega (arith, ints, e)) | inr j ↦ inr j ]

    from : (heights : List ℤ) → AreHeights points heights → AreStrips (InPolygon points) layer heights boxes → Over boxes x y ↔ InPolygon points x y
    from [] h s = (
      (λ o. let P : List BoxShape → Type 0 = λ l. Over l x y in absurd (subst P s o)),
      (λ w. absurd (below_all points x y (λ p i. absurd ((h.of_points p.y).1 (p, i, refl))) w)),
    )
    from (low ∷ heights) h s = (
      (λ o. boxes_inside points layer low heights boxes x y h.rising (known low heights h) s o),
      (λ w. by_lt_z y low
          (λ l. absurd (below_all points x y (λ p i. lowest low heights h p i l) w))
          (λ l. boxes_cover points layer low heights boxes x y h.rising (known low heights h) s l w)),
    )
      where
        lowest : (low : ℤ) (heights : List ℤ) → AreHeights points (low ∷ heights) → (p : Point) → Among points p → y <ℤ low → y <ℤ p.y
        lowest low heights h p i l =
            elim ((h.of_points p.y).1 (p, i, refl)) [ inl e ↦ omega (arith, ints, e) | inr j ↦ (let g : low <ℤ p.y = h.rising.0 p.y j in omega (arith, ints, g)) ]
