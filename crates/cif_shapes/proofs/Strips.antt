-- The strips of a polygon, from low to high.
use Rattle.std.proofs.Common.{◌≡◌, inl, inr, ℕ, zero, suc, ◌+◌, ◌-◌, ◌%◌, ◌==◌, ◌≤◌, ◌<◌, ◌^◌, Bool, true, false, cond, IsTrue, ℤ, negsuc, ◌-ℤ◌, ◌≤ℤ◌, ◌<ℤ◌, List, [], ◌∷◌, ◌++◌, length, take, drop, get_or, refl, sym, ◌∙◌, ap, subst, arith}
use Rattle.std.specs.List.{flat_map}
use Rattle.std.proofs.lemmas.Int.{ints}
use Rattle.std.proofs.lemmas.List.{append_assoc, drop_more, take-append-drop, append-nil}
use Rattle.std.proofs.lemmas.List.Sorted.{IsPermutation-sym}
use Rattle.geom.specs.declared.layer.Layer.{Layer}
use Rattle.geom.specs.declared.point.Point.{Point}
use Rattle.geom.specs.Squares.{BoxShape, IsSide}
use Rattle.geom.specs.Turns.{IsReachable}
use Rattle.geom.specs.Rows.{Among, Pairwise}
use Rattle.geom.specs.CifShapes.{segments_from, is_zero, InPolygon, AreHeights, AreStripRuns, AreStrips, ArePolygonBoxes}
use Rattle.cif_shapes.specs.Polygons.{IsPolygon}
use Rattle.cif_shapes.specs.Changes.{ends_of, side_ends, AreCorners, HaveChanges, AreChanges, ReachRow, run_boxes}
use Rattle.cif_shapes.proofs.Lists.{among_cases, among_left, pairwise_parts, permuted}
use Rattle.cif_shapes.proofs.Rays.{row_parity, even_beyond}
use Rattle.cif_shapes.proofs.Runs.{Within, runs_between, runs_alike, all_right}

-- ---- corners are points

segment_ends : (p : Point) (ps : List Point) (q : Point) → Among (flat_map ends_of (segments_from p ps)) q → Among (p ∷ ps) q
segment_ends p [] q i = absurd i
segment_ends p (r ∷ rs) q i =
    elim (among_cases (ends_of (record { start = p; stop = r })) (flat_map ends_of (segments_from r rs)) q i) [
      | inl j ↦ ends (is_zero (r.x -ℤ p.x)) j
      | inr j ↦ inr (segment_ends r rs q j)
    ]
  where
    ends : (z : Bool) → Among (cond z (p ∷ r ∷ []) []) q → Among (p ∷ r ∷ rs) q
    ends true (inl e) = inl e
    ends true (inr (inl e)) = inr (inl e)
    ends true (inr (inr k)) = absurd k
    ends false k = absurd k

end_is_point : (points : List Point) (q : Point) → Among (side_ends points) q → Among points q
end_is_point [] q i = absurd i
end_is_point (p ∷ ps) q i =
    elim (segment_ends p (ps ++ p ∷ []) q i) [
      | inl e ↦ inl e
      | inr j ↦ elim (among_cases ps (p ∷ []) q j) [ inl k ↦ inr k | inr k ↦ elim k [ inl e ↦ inl e | inr n ↦ absurd n ] ]
    ]

corner_is_point : (points corners : List Point) (n : ℕ) (q : Point) → AreCorners points corners → Among (take n corners) q → Among points q
corner_is_point points corners n q c i =
    let P : List Point → Type 0 = λ l. Among l q in
    end_is_point points q (permuted corners (side_ends points) q (IsPermutation-sym (side_ends points) corners c.same)
    (subst P (take-append-drop n corners) (among_left (take n corners) (drop n corners) q i)))

-- columns are within reach of the origin
pub near_columns : (points corners : List Point) (n : ℕ) (columns : List ℤ) → IsPolygon points → AreCorners points corners → HaveChanges (take n corners) columns
    → (x : ℤ) → Among columns x → IsReachable x
near_columns points corners n columns polygon c h x i =
    let f = h.own x i in
    subst IsReachable f.2 (polygon.across f.0 (corner_is_point points corners n f.0 c f.1))

-- ---- one strip

beyond : ℤ
beyond = negsuc (2 ^ 40)

reachable_right : (x : ℤ) → IsReachable x → beyond <ℤ x
unfolding beyond
reachable_right x r = omega (arith, ints, r.from)

strip_runs : (layer : Layer) (points corners : List Point) (n : ℕ) (columns : List ℤ) (low high : ℤ) → IsPolygon points → AreCorners points corners
    → ReachRow corners n low → AreChanges (take n corners) columns → AreStripRuns (InPolygon points) layer low high (run_boxes layer low high columns)
strip_runs layer points corners n columns low high polygon c r h =
    runs_alike (Within columns) (InPolygon points) layer low high (run_boxes layer low high columns)
    (λ x. ap (λ (k : ℕ). IsTrue (k == 1)) (row_parity points corners n columns x low c r h.have))
    (runs_between layer low high columns h.rising even)
  where
    even : length columns % 2 ≡ 0
    even =
        ap (λ (k : ℕ). k % 2) (sym (all_right columns beyond (λ x i. reachable_right x (near_columns points corners n columns polygon c h.have x i))))
        ∙ (row_parity points corners n columns beyond low c r h.have
        ∙ even_beyond points beyond low polygon.rectilinear (λ p i. reachable_right p.x (polygon.across p i)))

-- ---- strip after strip

-- The strips below the height of this number are drawn.
pub record IsSwept (layer : Layer) (points : List Point) (heights : List ℤ) (corners : List Point) (lower count : ℕ) (columns : List ℤ) (boxes : List BoxShape) : Type 0 where
  pub within : count ≤ length corners
  pub have : HaveChanges (take count corners) columns
  pub below : (p : Point) (h : ℤ) → Among (take count corners) p → Among (drop lower heights) h → p.y ≤ℤ h
  pub strips : (more : List BoxShape) → AreStrips (InPolygon points) layer (drop lower heights) more → AreStrips (InPolygon points) layer heights (boxes ++ more)

pub swept_none : (layer : Layer) (points : List Point) (heights : List ℤ) (corners : List Point) → IsSwept layer points heights corners 0 0 [] []
swept_none layer points heights corners = record {
  within = omega arith;
  have = record { odd = λ x. refl; own = λ x i. absurd i };
  below = λ p h i j. absurd i;
  strips = λ more s. s;
}

-- two neighbouring heights
pub record AreNext (heights : List ℤ) (lower : ℕ) (low high : ℤ) : Type 0 where
  pub here : drop lower heights ≡ low ∷ drop (lower + 1) heights
  pub next : drop (lower + 1) heights ≡ high ∷ drop (lower + 2) heights

-- the heights before and at this number
pub next_at : (heights : List ℤ) (upper : ℕ) (low high : ℤ) → 1 ≤ upper → upper < length heights → low ≡ get_or heights (upper - 1) low → high ≡ get_or heights upper high
    → AreNext heights (upper - 1) low high
next_at heights upper low high first short e f =
    let g : upper - 1 + 1 ≡ upper = omega arith in
    let h : upper + 1 ≡ upper - 1 + 2 = omega arith in
    let P : ℤ → Type 0 = λ v. drop (upper - 1) heights ≡ v ∷ drop (upper - 1 + 1) heights in
    let Q : ℤ → Type 0 = λ v. drop upper heights ≡ v ∷ drop (upper + 1) heights in
    let R : ℕ → Type 0 = λ j. drop j heights ≡ high ∷ drop (upper + 1) heights in
    let S : ℕ → Type 0 = λ j. drop (upper - 1 + 1) heights ≡ high ∷ drop j heights in
    record {
      here = subst P (sym e) (drop_more heights (upper - 1) low (omega arith));
      next = subst S h (subst R (sym g) (subst Q (sym f) (drop_more heights upper high short)));
    }

rising_rest : (heights : List ℤ) (lower : ℕ) → Pairwise (λ low high. low <ℤ high) heights → Pairwise (λ low high. low <ℤ high) (drop lower heights)
rising_rest heights lower up =
    let P : List ℤ → Type 0 = λ l. Pairwise (λ low high. low <ℤ high) l in
    (pairwise_parts (λ low high. low <ℤ high) (take lower heights) (drop lower heights) (subst P (sym (take-append-drop lower heights)) up)).1

low_before : (heights : List ℤ) (lower : ℕ) (low high : ℤ) → Pairwise (λ a b. a <ℤ b) heights → AreNext heights lower low high → (h : ℤ)
    → Among (drop (lower + 1) heights) h → low <ℤ h
low_before heights lower low high up n h i =
    let P : List ℤ → Type 0 = λ l. Pairwise (λ a b. a <ℤ b) l in
    (subst P n.here (rising_rest heights lower up)).0 h i

-- the height of this number is that of a point
height_among : (heights : List ℤ) (lower : ℕ) (low : ℤ) (rest : List ℤ) → drop lower heights ≡ low ∷ rest → Among heights low
height_among [] zero low rest e = absurd cc
height_among [] (suc i) low rest e = absurd cc
height_among (x ∷ xs) zero low rest e = inl cc
height_among (x ∷ xs) (suc i) low rest e = inr (height_among xs i low rest e)

near_height : (points : List Point) (heights : List ℤ) (h : ℤ) → IsPolygon points → AreHeights points heights → Among heights h → IsReachable h
near_height points heights h polygon a i = let f = (a.of_points h).0 i in subst IsReachable f.2 (polygon.upward f.0 f.1)

pub strip_side : (points : List Point) (heights : List ℤ) (lower : ℕ) (low high : ℤ) → IsPolygon points → AreHeights points heights → AreNext heights lower low high
    → IsSide low high
strip_side points heights lower low high polygon a n =
    let l = near_height points heights low polygon a (height_among heights lower low (drop (lower + 1) heights) n.here) in
    let h = near_height points heights high polygon a (height_among heights (lower + 1) high (drop (lower + 2) heights) n.next) in
    let P : List ℤ → Type 0 = λ l. Among l high in
    let order : low <ℤ high = low_before heights lower low high a.rising n high (subst P (sym n.next) (inl refl)) in
    record { first = l.from; order = order; last = h.to }

-- corners of lower rows are in the next row or below it
pub below_low : (layer : Layer) (points : List Point) (heights : List ℤ) (corners : List Point) (lower count : ℕ) (columns : List ℤ) (boxes : List BoxShape) (low high : ℤ)
    → AreNext heights lower low high → IsSwept layer points heights corners lower count columns boxes → (p : Point) → Among (take count corners) p → p.y ≤ℤ low
below_low layer points heights corners lower count columns boxes low high n s p i =
    let P : List ℤ → Type 0 = λ l. Among l low in
    s.below p low i (subst P (sym n.here) (inl refl))

pub swept_more : (layer : Layer) (points : List Point) (heights : List ℤ) (corners : List Point) (lower count next : ℕ) (columns changes : List ℤ)
    → (boxes new : List BoxShape) (low high : ℤ) → IsPolygon points → AreHeights points heights → AreCorners points corners → AreNext heights lower low high
    → ReachRow corners next low → AreChanges (take next corners) changes → new ≡ boxes ++ run_boxes layer low high changes
    → IsSwept layer points heights corners lower count columns boxes → IsSwept layer points heights corners (lower + 1) next changes new
swept_more layer points heights corners lower count next columns changes boxes new low high polygon a c n r h e s = record {
  within = r.within;
  have = h.have;
  below = λ p k i j. omega (arith, ints, r.below p i, low_before heights lower low high a.rising n k j);
  strips =
      λ more t.
      let runs : List BoxShape = run_boxes layer low high changes in
      let S : List ℤ → Type 0 = λ l. AreStrips (InPolygon points) layer l more in
      let T : List ℤ → Type 0 = λ l. AreStrips (InPolygon points) layer (low ∷ l) (runs ++ more) in
      let U : List ℤ → Type 0 = λ l. AreStrips (InPolygon points) layer l (runs ++ more) in
      let W : List BoxShape → Type 0 = λ l. AreStrips (InPolygon points) layer heights l in
      let V : List BoxShape → Type 0 = λ l. AreStrips (InPolygon points) layer heights (l ++ more) in
      let here : AreStrips (InPolygon points) layer (low ∷ high ∷ drop (lower + 2) heights) (runs ++ more) =
      (runs, more, refl, strip_runs layer points corners next changes low high polygon c r h, subst S n.next t) in
      let whole : AreStrips (InPolygon points) layer (drop lower heights) (runs ++ more) = subst U (sym n.here) (subst T (sym n.next) here) in
      subst V (sym e) (subst W (sym (append_assoc boxes runs more)) (s.strips (runs ++ more) whole));
}

pub swept_all : (layer : Layer) (points : List Point) (heights : List ℤ) (corners : List Point) (lower count : ℕ) (columns : List ℤ) (boxes : List BoxShape)
    → AreHeights points heights → length heights ≤ lower + 1 → IsSwept layer points heights corners lower count columns boxes
    → ArePolygonBoxes layer points boxes
swept_all layer points heights corners lower count columns boxes a past s =
    let P : List BoxShape → Type 0 = λ l. AreStrips (InPolygon points) layer heights l in
    record { heights = heights; are_heights = a; strips = subst P (append-nil boxes) (s.strips [] (short heights lower past)) }
  where
    short : (hs : List ℤ) (i : ℕ) → length hs ≤ i + 1 → AreStrips (InPolygon points) layer (drop i hs) []
    short [] zero h = refl
    short [] (suc i) h = refl
    short (x ∷ []) zero h = refl
    short (x ∷ y ∷ hs) zero h = absurd (omega arith)
    short (x ∷ hs) (suc i) h = short hs i (omega arith)
