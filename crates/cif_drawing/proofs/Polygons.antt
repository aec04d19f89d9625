-- A polygon has no other boxes than those of its rows.
use Rattle.std.proofs.Common.{◌≡◌, ℕ, ◌+◌, ◌%◌, ◌==◌, Bool, true, false, cond, ◌&&◌, ℤ, pos, ◌-ℤ◌, ◌≤ℤ◌, ◌<ℤ◌, int_lt, int_le, List, [], ◌∷◌, ◌++◌, ◌⊎◌, map, inl, inr, refl, sym, ◌∙◌, ap, subst, arith}
use Rattle.std.specs.List.{count_by}
use Rattle.std.specs.Int.{int_min, int_max}
use Rattle.std.proofs.lemmas.Int.{ints, by_lt_z}
use Rattle.std.proofs.lemmas.List.Sums.{sum_by-cons}
use Rattle.geom.specs.declared.layer.Layer.{Layer}
use Rattle.geom.specs.declared.point.Point.{Point}
use Rattle.geom.specs.Squares.{BoxShape}
use Rattle.geom.specs.Rows.{Among, Pairwise}
use Rattle.geom.specs.CifShapes.{Segment, segments_from, polygon_sides, is_zero, meets_ray, is_inside_polygon, InPolygon, AreHeights, IsStripRun, AreStripRuns, AreStrips, ArePolygonBoxes}
use Rattle.cif_shapes.specs.Changes.{run_boxes}
use Rattle.cif_drawing.proofs.RowBoxes.{in_order, differs, is_change, row_changes, strip_boxes, polygon_list}
use Rattle.cif_drawing.proofs.Lists.{among_cases, among_map}
use Rattle.cif_drawing.proofs.Tests.{lt_true}
use Rattle.cif_drawing.proofs.Rising.{Rising, rising_same, order_among, order_rising, among_filter, filter_among, filter_rising}

-- ---- the edges of runs

abbrev edges : List BoxShape → List ℤ
edges [] = []
edges (b ∷ bs) = b.x1 ∷ b.x2 ∷ edges bs

runs_are : (points : List Point) (layer : Layer) (low high : ℤ) (runs : List BoxShape)
    → ((b : BoxShape) → Among runs b → IsStripRun (InPolygon points) layer low high b) → runs ≡ run_boxes layer low high (edges runs)
runs_are points layer low high [] h = refl
runs_are points layer low high (b ∷ bs) h =
    let s = h b (inl refl) in
    let e : b ≡ (let r : BoxShape = record { layer = layer; x1 = b.x1; y1 = low; x2 = b.x2; y2 = high } in r) =
    ap (λ (l : Layer). record { layer = l; x1 = b.x1; y1 = b.y1; x2 = b.x2; y2 = b.y2 }) s.layer_is
    ∙ (ap (λ (v : ℤ). record { layer = layer; x1 = b.x1; y1 = v; x2 = b.x2; y2 = b.y2 }) s.bottom
    ∙ ap (λ (v : ℤ). record { layer = layer; x1 = b.x1; y1 = low; x2 = b.x2; y2 = v }) s.top) in
    ap (λ (c : BoxShape). c ∷ bs) e
    ∙ ap (λ (l : List BoxShape). record { layer = layer; x1 = b.x1; y1 = low; x2 = b.x2; y2 = high } ∷ l) (runs_are points layer low high bs (λ c i. h c (inr i)))

edge_of : (runs : List BoxShape) (v : ℤ) → Among (edges runs) v → (b : BoxShape) × Among runs b × ((b.x1 ≡ v) ⊎ (b.x2 ≡ v))
edge_of [] v i = absurd i
edge_of (b ∷ bs) v (inl e) = (b, inl refl, inl e)
edge_of (b ∷ bs) v (inr (inl e)) = (b, inl refl, inr e)
edge_of (b ∷ bs) v (inr (inr i)) = let f = edge_of bs v i in (f.0, inr f.1, f.2)

left_edge : (runs : List BoxShape) (b : BoxShape) → Among runs b → Among (edges runs) b.x1
left_edge [] b i = absurd i
left_edge (c ∷ cs) b (inl e) = inl (ap (λ (v : BoxShape). v.x1) e)
left_edge (c ∷ cs) b (inr i) = inr (inr (left_edge cs b i))

right_edge : (runs : List BoxShape) (b : BoxShape) → Among runs b → Among (edges runs) b.x2
right_edge [] b i = absurd i
right_edge (c ∷ cs) b (inl e) = inr (inl (ap (λ (v : BoxShape). v.x2) e))
right_edge (c ∷ cs) b (inr i) = inr (inr (right_edge cs b i))

-- runs do not touch
apart : (points : List Point) (layer : Layer) (low high : ℤ) (b c : BoxShape) → IsStripRun (InPolygon points) layer low high b
    → IsStripRun (InPolygon points) layer low high c → b.x1 <ℤ c.x1 → b.x2 <ℤ c.x1
apart points layer low high b c s t h =
    by_lt_z b.x2 c.x1 (λ l. l) (λ l. by_lt_z c.x1 b.x2 (λ k. absurd (t.run.left (s.run.covered (c.x1 -ℤ pos 1) (omega (arith, ints)) (omega (arith, ints)))))
    (λ k.
    let e : c.x1 ≡ b.x2 = omega (arith, ints) in
    let P : ℤ → Type 0 = λ v. InPolygon points v low in
    absurd (s.run.right (subst P e (t.run.covered c.x1 (omega (arith, ints)) t.order)))))

edges_rising : (points : List Point) (layer : Layer) (low high : ℤ) (runs : List BoxShape)
    → ((b : BoxShape) → Among runs b → IsStripRun (InPolygon points) layer low high b) → Pairwise (λ left right. left.x1 <ℤ right.x1) runs → Rising (edges runs)
edges_rising points layer low high [] h r = tt
edges_rising points layer low high (b ∷ bs) h r =
    (first, (beyond, edges_rising points layer low high bs (λ c i. h c (inr i)) r.1))
  where
    beyond : (v : ℤ) → Among (edges bs) v → b.x2 <ℤ v
    beyond v i =
        let f = edge_of bs v i in
        let s = h b (inl refl) in
        let t = h f.0 (inr f.1) in
        let g : b.x2 <ℤ f.0.x1 = apart points layer low high b f.0 s t (r.0 f.0 f.1) in
        elim f.2 [ inl e ↦ omega (arith, ints) | inr e ↦ omega (arith, ints, t.order) ]

    first : (v : ℤ) → Among (b.x2 ∷ edges bs) v → b.x1 <ℤ v
    first v (inl e) = omega (arith, ints, (h b (inl refl)).order)
    first v (inr i) = omega (arith, ints, (h b (inl refl)).order, beyond v i)

-- ---- where a row changes

differ_left : (a b : Bool) → a ≡ true → (b ≡ true → ⊥) → differs a b ≡ true
differ_left true true h k = absurd (k refl)
differ_left true false h k = refl
differ_left false b h k = absurd cc

differ_right : (a b : Bool) → (a ≡ true → ⊥) → b ≡ true → differs a b ≡ true
differ_right true b h k = absurd (h refl)
differ_right false b h k = k

not_same : (a : Bool) → differs a a ≡ true → ⊥
not_same true h = cc
not_same false h = cc

edge_changes : (points : List Point) (layer : Layer) (low high : ℤ) (b : BoxShape) (v : ℤ) → IsStripRun (InPolygon points) layer low high b
    → (b.x1 ≡ v) ⊎ (b.x2 ≡ v) → is_change points low v ≡ true
edge_changes points layer low high b v s (inl e) =
    let P : ℤ → Type 0 = λ w. is_change points low w ≡ true in
    subst P e (differ_left (is_inside_polygon points b.x1 low) (is_inside_polygon points (b.x1 -ℤ pos 1) low) (s.run.covered b.x1 (omega (arith, ints)) s.order) s.run.left)
edge_changes points layer low high b v s (inr e) =
    let P : ℤ → Type 0 = λ w. is_change points low w ≡ true in
    subst P e (differ_right (is_inside_polygon points b.x2 low) (is_inside_polygon points (b.x2 -ℤ pos 1) low) s.run.right
    (s.run.covered (b.x2 -ℤ pos 1) (omega (arith, ints, s.order)) (omega (arith, ints))))

change_is_edge : (points : List Point) (layer : Layer) (low high : ℤ) (runs : List BoxShape) (v : ℤ) → AreStripRuns (InPolygon points) layer low high runs
    → is_change points low v ≡ true → Among (edges runs) v
change_is_edge points layer low high runs v r h = by (is_inside_polygon points v low) (is_inside_polygon points (v -ℤ pos 1) low) refl refl h
  where
    by : (a b : Bool) → is_inside_polygon points v low ≡ a → is_inside_polygon points (v -ℤ pos 1) low ≡ b → differs a b ≡ true → Among (edges runs) v
    by true true p q h = absurd cc
    by false false p q h = absurd cc
    by true false p q h =
        let f = r.covers v p in
        let s = r.each f.0 f.1 in
        let P : ℤ → Type 0 = λ w. Among (edges runs) w in
        let out : InPolygon points (v -ℤ pos 1) low → ⊥ = λ w. let e : false ≡ true = sym q ∙ w in cc in
        by_lt_z f.0.x1 v (λ l. absurd (out (s.run.covered (v -ℤ pos 1) (omega (arith, ints)) (omega (arith, ints, f.3)))))
        (λ l. let e : f.0.x1 ≡ v = omega (arith, ints, f.2) in subst P e (left_edge runs f.0 f.1))
    by false true p q h =
        let f = r.covers (v -ℤ pos 1) q in
        let s = r.each f.0 f.1 in
        let P : ℤ → Type 0 = λ w. Among (edges runs) w in
        let out : InPolygon points v low → ⊥ = λ w. let e : false ≡ true = sym p ∙ w in cc in
        by_lt_z v f.0.x2 (λ l. absurd (out (s.run.covered v (omega (arith, ints, f.2)) l)))
        (λ l. let e : f.0.x2 ≡ v = omega (arith, ints, f.3) in subst P e (right_edge runs f.0 f.1))

-- ---- a row changes only at columns of points

is_among : (xs : List ℤ) (v : ℤ) → Among xs v ⊎ (Among xs v → ⊥)
is_among [] v = inr (λ i. i)
is_among (x ∷ xs) v =
    elim (is_among xs v) [
      | inl i ↦ inl (inr i)
      | inr out ↦ by_lt_z x v (λ l. inr (λ i. elim i [ inl e ↦ omega (arith, ints) | inr j ↦ out j ]))
          (λ l. by_lt_z v x (λ k. inr (λ i. elim i [ inl e ↦ omega (arith, ints) | inr j ↦ out j ])) (λ k. inl (inl (omega (arith, ints)))))
    ]

start_among : (p : Point) (ps : List Point) (s : Segment) → Among (segments_from p ps) s → Among (p ∷ ps) s.start
start_among p [] s i = absurd i
start_among p (q ∷ qs) s (inl e) = inl (ap (λ (t : Segment). t.start) e)
start_among p (q ∷ qs) s (inr i) = inr (start_among q qs s i)

side_start : (points : List Point) (s : Segment) → Among (polygon_sides points) s → Among points s.start
side_start [] s i = absurd i
side_start (p ∷ ps) s i = elim (start_among p (ps ++ p ∷ []) s i) [
  | inl e ↦ inl e
  | inr j ↦ elim (among_cases ps (p ∷ []) s.start j) [ inl k ↦ inr k | inr k ↦ elim k [ inl e ↦ inl e | inr n ↦ absurd n ] ]
]

column_among : (points : List Point) (p : Point) → Among points p → Among (map (λ (q : Point). q.x) points) p.x
column_among [] p i = absurd i
column_among (q ∷ qs) p (inl e) = inl (ap (λ (v : Point). v.x) e)
column_among (q ∷ qs) p (inr i) = inr (column_among qs p i)

lt_same : (v x : ℤ) → (x ≡ v → ⊥) → int_lt v x ≡ int_lt (v -ℤ pos 1) x
lt_same v x h =
    by_lt_z v x (λ l. lt_true v x l ∙ sym (lt_true (v -ℤ pos 1) x (omega (arith, ints))))
    (λ l. by_lt_z x v (λ k. lt_false v x l ∙ sym (lt_false (v -ℤ pos 1) x (omega (arith, ints)))) (λ k. absurd (h (omega (arith, ints)))))
  where
    lt_false : (a b : ℤ) → b ≤ℤ a → int_lt a b ≡ false
    lt_false a b h = grind (arith, ints)

same_met : (v y : ℤ) (s : Segment) → (s.start.x ≡ v → ⊥) → meets_ray v y s ≡ meets_ray (v -ℤ pos 1) y s
same_met v y s h =
    ap (λ (t : Bool). ((is_zero (s.stop.x -ℤ s.start.x) && t) && int_le (int_min s.start.y s.stop.y) y) && int_lt y (int_max s.start.y s.stop.y))
    (lt_same v s.start.x h)

count_cons : {X : Type 0} (p : X → Bool) (x : X) (xs : List X) → count_by p (x ∷ xs) ≡ cond (p x) 1 0 + count_by p xs
count_cons {X} p x xs = sum_by-cons (λ (y : X). cond (p y) 1 0) x xs

same_count : (v y : ℤ) (ss : List Segment) → ((s : Segment) → Among ss s → s.start.x ≡ v → ⊥) → count_by (meets_ray v y) ss ≡ count_by (meets_ray (v -ℤ pos 1) y) ss
same_count v y [] h = refl
same_count v y (s ∷ ss) h =
    count_cons (meets_ray v y) s ss ∙ (ap (λ (t : Bool). cond t 1 0 + count_by (meets_ray v y) ss) (same_met v y s (h s (inl refl)))
    ∙ (ap (λ (n : ℕ). cond (meets_ray (v -ℤ pos 1) y s) 1 0 + n) (same_count v y ss (λ t i. h t (inr i)))
    ∙ sym (count_cons (meets_ray (v -ℤ pos 1) y) s ss)))

change_at_point : (points : List Point) (y v : ℤ) → is_change points y v ≡ true → Among (map (λ (p : Point). p.x) points) v
change_at_point points y v h =
    elim (is_among (map (λ (p : Point). p.x) points) v) [
      | inl i ↦ i
      | inr out ↦ absurd (not_same (is_inside_polygon points (v -ℤ pos 1) y) (same out))
    ]
  where
    same : (Among (map (λ (p : Point). p.x) points) v → ⊥) → differs (is_inside_polygon points (v -ℤ pos 1) y) (is_inside_polygon points (v -ℤ pos 1) y) ≡ true
    same out =
        let P : ℤ → Type 0 = λ w. Among (map (λ (p : Point). p.x) points) w in
        let e : is_inside_polygon points v y ≡ is_inside_polygon points (v -ℤ pos 1) y =
        ap (λ (n : ℕ). n % 2 == 1)
        (same_count v y (polygon_sides points) (λ s i f. out (subst P f (column_among points s.start (side_start points s i))))) in
        sym (ap (λ (t : Bool). differs t (is_inside_polygon points (v -ℤ pos 1) y)) e) ∙ h

-- ---- all strips

row_edges : (points : List Point) (layer : Layer) (low high : ℤ) (runs : List BoxShape) → AreStripRuns (InPolygon points) layer low high runs
    → edges runs ≡ row_changes points low
row_edges points layer low high runs r =
    let xs : List ℤ = map (λ (p : Point). p.x) points in
    rising_same (edges runs) (row_changes points low) (edges_rising points layer low high runs r.each r.rising)
    (filter_rising (is_change points low) (in_order xs) (order_rising xs))
    (λ v i.
    let f = edge_of runs v i in
    let h = edge_changes points layer low high f.0 v (r.each f.0 f.1) f.2 in
    filter_among (is_change points low) (in_order xs) v ((order_among xs v).1 (change_at_point points low v h)) h)
    (λ v i. change_is_edge points layer low high runs v r (among_filter (is_change points low) (in_order xs) v i).1)

strips_are : (points : List Point) (layer : Layer) (heights : List ℤ) (boxes : List BoxShape) → AreStrips (InPolygon points) layer heights boxes
    → boxes ≡ strip_boxes layer points heights
strips_are points layer [] boxes s = s
strips_are points layer (low ∷ []) boxes s = s
strips_are points layer (low ∷ high ∷ heights) boxes s =
    s.2 ∙ (ap (λ (l : List BoxShape). l ++ s.1)
    (runs_are points layer low high s.0 s.3.each ∙ ap (run_boxes layer low high) (row_edges points layer low high s.0 s.3))
    ∙ ap (λ (l : List BoxShape). run_boxes layer low high (row_changes points low) ++ l) (strips_are points layer (high ∷ heights) s.1 s.4))

heights_are : (points : List Point) (heights : List ℤ) → AreHeights points heights → heights ≡ in_order (map (λ (p : Point). p.y) points)
heights_are points heights h =
    let ys : List ℤ = map (λ (p : Point). p.y) points in
    rising_same heights (in_order ys) h.rising (order_rising ys) (λ v i. (order_among ys v).1 (up v ((h.of_points v).0 i)))
    (λ v i. (h.of_points v).1 (among_map (λ (p : Point). p.y) points v ((order_among ys v).0 i)))
  where
    row_among : (ps : List Point) (p : Point) → Among ps p → Among (map (λ (q : Point). q.y) ps) p.y
    row_among [] p i = absurd i
    row_among (q ∷ qs) p (inl e) = inl (ap (λ (v : Point). v.y) e)
    row_among (q ∷ qs) p (inr i) = inr (row_among qs p i)

    up : (v : ℤ) → ((p : Point) × Among points p × (p.y ≡ v)) → Among (map (λ (q : Point). q.y) points) v
    up v f = let P : ℤ → Type 0 = λ w. Among (map (λ (q : Point). q.y) points) w in subst P f.2 (row_among points f.0 f.1)

-- The boxes of a polygon are these.
pub boxes_are : (layer : Layer) (points : List Point) (boxes : List BoxShape) → ArePolygonBoxes layer points boxes → boxes ≡ polygon_list layer points
boxes_are layer points boxes a = strips_are points layer a.heights boxes a.strips ∙ ap (strip_boxes layer points) (heights_are points a.heights a.are_heights)
