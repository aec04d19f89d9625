-- The segments of wires, and their edges.
use Rattle.std.proofs.Common.{◌≡◌, ℕ, zero, suc, ◌+◌, ◌<◌, ◌≤◌, ℤ, pos, negsuc, ◌+ℤ◌, ◌-ℤ◌, ◌*ℤ◌, ◌≤ℤ◌, List, [], ◌∷◌, ◌++◌, map, length, get_or, drop, refl, sym, ◌∙◌, ap, subst, inl, inr, arith}
use Rattle.std.specs.Int.{int_min, int_max}
use Rattle.std.specs.Int.RustNames.{unsigned_abs, int_div, int_rem}
use Rattle.std.proofs.lemmas.Int.{ints, clamps, quot-rem, rem_below}
use Rattle.std.proofs.lemmas.List.{map_push, append_assoc, append-nil, drop_all}
use Rattle.geom.specs.declared.layer.Layer.{Layer}
use Rattle.geom.specs.declared.point.Point.{Point}
use Rattle.geom.specs.Squares.{BoxShape, IsSide}
use Rattle.geom.specs.Rows.{Among}
use Rattle.geom.specs.CifShapes.{Segment, Outline, segments_from, wire_segments, segment_outline, wire_outlines}
use Rattle.cif_shapes.specs.Wires.{AreAlike, IsNear, IsWire, doubled_edges, AreWireBoxes}
use Rattle.cif_shapes.specs.Spans.{IsSpan, AreEdges}
use Rattle.cif_shapes.proofs.Lists.{among_push, item_among}
use Rattle.cif_shapes.proofs.PolygonSides.{left_segments, length_segments}

no_rest : (q r a h : ℤ) → q *ℤ pos 2 +ℤ r ≡ a → unsigned_abs r < 2 → a ≡ pos 2 *ℤ h → pos 2 *ℤ q ≡ a
no_rest q (pos zero) a h e s f = omega (arith, ints)
no_rest q (pos (suc n)) a h e s f = absurd (omega (arith, ints))
no_rest q (negsuc n) a h e s f = absurd (omega (arith, ints))

-- half of an even number, doubled
pub halved : (a h : ℤ) → a ≡ pos 2 *ℤ h → pos 2 *ℤ int_div a (pos 2) ≡ a
halved a h e = no_rest (int_div a (pos 2)) (int_rem a (pos 2)) a h (quot-rem a (pos 2)) (rem_below a (pos 2) (omega arith)) e

-- the least and the greatest of the two are alike with the width
pub low_even : (one other width : ℤ) → AreAlike one width → AreAlike other width → (h : ℤ) × (int_min one other -ℤ width ≡ pos 2 *ℤ h)
low_even one other width a b = (int_min a.0 b.0, omega (arith, ints, clamps, a.1, b.1))

pub high_even : (one other width : ℤ) → AreAlike one width → AreAlike other width → (h : ℤ) × (int_max one other +ℤ width ≡ pos 2 *ℤ h)
high_even one other width a b = (int_max a.0 b.0 +ℤ width, omega (arith, ints, clamps, a.1, b.1))

-- twice an edge is even
pub low_half : (one other width low : ℤ) → IsSpan one other width → low ≡ int_min one other -ℤ width → (h : ℤ) × (low ≡ pos 2 *ℤ h)
low_half one other width low s e = let f = low_even one other width s.first s.second in (f.0, e ∙ f.1)

pub high_half : (one other width high : ℤ) → IsSpan one other width → high ≡ int_max one other +ℤ width → (h : ℤ) × (high ≡ pos 2 *ℤ h)
high_half one other width high s e = let f = high_even one other width s.first s.second in (f.0, e ∙ f.1)

pub edges_side : (one other width lower upper : ℤ) → IsSpan one other width → AreEdges one other width lower upper → IsSide lower upper
edges_side one other width lower upper s e = record {
  first = omega (arith, ints, s.from.from, e.low);
  order = omega (arith, ints, clamps, s.wide, e.low, e.high);
  last = omega (arith, ints, s.to.to, e.high);
}

pub span_same : (a b w c d v : ℤ) → c ≡ a → d ≡ b → v ≡ w → IsSpan a b w → IsSpan c d v
span_same a b w c d v e f g s =
    let P : ℤ → Type 0 = λ x. IsSpan x d v in
    let Q : ℤ → Type 0 = λ x. IsSpan a x v in
    let R : ℤ → Type 0 = λ x. IsSpan a b x in
    subst P (sym e) (subst Q (sym f) (subst R (sym g) s))

pub edges_same : (a b w c d v l h m n : ℤ) → c ≡ a → d ≡ b → v ≡ w → m ≡ l → n ≡ h → AreEdges c d v l h → AreEdges a b w m n
edges_same a b w c d v l h m n e f g i j s =
    let P : ℤ → Type 0 = λ x. AreEdges x b w m n in
    let Q : ℤ → Type 0 = λ x. AreEdges c x w m n in
    let R : ℤ → Type 0 = λ x. AreEdges c d x m n in
    let S : ℤ → Type 0 = λ x. AreEdges c d v x n in
    let T : ℤ → Type 0 = λ x. AreEdges c d v l x in
    subst P e (subst Q f (subst R g (subst S (sym i) (subst T (sym j) s))))

-- twice the edges, as they are computed
pub edges_of : (one other width low high lower upper l h : ℤ) → low ≡ int_min one other -ℤ width → high ≡ int_max one other +ℤ width → pos 2 *ℤ l ≡ low → pos 2 *ℤ h ≡ high
    → lower ≡ l → upper ≡ h → AreEdges one other width lower upper
edges_of one other width low high lower upper l h a b d e f g =
    let P : ℤ → Type 0 = λ v. pos 2 *ℤ v ≡ int_min one other -ℤ width in
    let Q : ℤ → Type 0 = λ v. pos 2 *ℤ v ≡ int_max one other +ℤ width in
    record { low = subst P (sym f) (d ∙ a); high = subst Q (sym g) (e ∙ b) }

abs_is : (w : ℤ) → pos 1 ≤ℤ w → pos (unsigned_abs w) ≡ w
abs_is (pos n) h = refl
abs_is (negsuc n) h = absurd (omega (arith, ints))

-- what an outline's edges are, by the width as an integer
outline_at : (w : ℤ) (s : Segment) → pos 1 ≤ℤ w → segment_outline (unsigned_abs w) s ≡ record {
  left = int_min s.start.x s.stop.x -ℤ w;
  bottom = int_min s.start.y s.stop.y -ℤ w;
  right = int_max s.start.x s.stop.x +ℤ w;
  top = int_max s.start.y s.stop.y +ℤ w;
}
outline_at w s h =
    let P : ℤ → Type 0 =
    λ v. segment_outline (unsigned_abs w) s ≡ record {
      left = int_min s.start.x s.stop.x -ℤ v;
      bottom = int_min s.start.y s.stop.y -ℤ v;
      right = int_max s.start.x s.stop.x +ℤ v;
      top = int_max s.start.y s.stop.y +ℤ v;
    } in
    subst P (abs_is w h) refl

among_outline : (w : ℕ) (ss : List Segment) (s : Segment) → Among ss s → Among (map (segment_outline w) ss) (segment_outline w s)
among_outline w (t ∷ ts) s (inl e) = inl (ap (segment_outline w) e)
among_outline w (t ∷ ts) s (inr i) = inr (among_outline w ts s i)
among_outline w [] s i = absurd i

-- a segment between two points of the wire
pub record IsBetween (points : List Point) (start stop : Point) : Type 0 where
  pub first : Among points start
  pub second : Among points stop
  pub segment : Among (wire_segments points) (record { start = start; stop = stop })

near_of : (width : ℤ) (points : List Point) (start stop : Point) → IsWire width points → IsBetween points start stop
    → IsNear (record {
      left = int_min start.x stop.x -ℤ width;
      bottom = int_min start.y stop.y -ℤ width;
      right = int_max start.x stop.x +ℤ width;
      top = int_max start.y stop.y +ℤ width;
    })
near_of width points start stop wire b =
    subst IsNear (outline_at width (record { start = start; stop = stop }) wire.wide)
    (wire.near (segment_outline (unsigned_abs width) (record { start = start; stop = stop }))
    (among_outline (unsigned_abs width) (wire_segments points) (record { start = start; stop = stop }) b.segment))

pub across_span : (width : ℤ) (points : List Point) (start stop : Point) → IsWire width points → IsBetween points start stop → IsSpan start.x stop.x width
across_span width points start stop wire b =
    let near = near_of width points start stop wire b in
    record { wide = wire.wide; first = wire.across start b.first; second = wire.across stop b.second; from = near.left; to = near.right }

pub upward_span : (width : ℤ) (points : List Point) (start stop : Point) → IsWire width points → IsBetween points start stop → IsSpan start.y stop.y width
upward_span width points start stop wire b =
    let near = near_of width points start stop wire b in
    record { wide = wire.wide; first = wire.upward start b.first; second = wire.upward stop b.second; from = near.bottom; to = near.top }

-- ---- one box for each segment

-- the boxes of the segments before this one
pub record HasBoxes (layer : Layer) (width : ℤ) (points : List Point) (at : ℕ) (boxes : List BoxShape) : Type 0 where
  pub layers : (b : BoxShape) → Among boxes b → b.layer ≡ layer
  pub edges : map doubled_edges boxes ++ map (segment_outline (unsigned_abs width)) (drop at (wire_segments points)) ≡ wire_outlines (unsigned_abs width) points

pub no_boxes : (layer : Layer) (width : ℤ) (points : List Point) → HasBoxes layer width points 0 []
no_boxes layer width points = record { layers = λ b i. absurd i; edges = refl }

-- the box is that of the segment between these points
pub record IsSegmentBox (layer : Layer) (width : ℤ) (start stop : Point) (b : BoxShape) : Type 0 where
  pub layer_is : b.layer ≡ layer
  pub across : AreEdges start.x stop.x width b.x1 b.x2
  pub upward : AreEdges start.y stop.y width b.y1 b.y2

box_outline : (layer : Layer) (width : ℤ) (start stop : Point) (b : BoxShape) → pos 1 ≤ℤ width → IsSegmentBox layer width start stop b
    → doubled_edges b ≡ segment_outline (unsigned_abs width) (record { start = start; stop = stop })
box_outline layer width start stop b wide s =
    let l : pos 2 *ℤ b.x1 ≡ int_min start.x stop.x -ℤ width = s.across.low in
    let r : pos 2 *ℤ b.x2 ≡ int_max start.x stop.x +ℤ width = s.across.high in
    let o : pos 2 *ℤ b.y1 ≡ int_min start.y stop.y -ℤ width = s.upward.low in
    let t : pos 2 *ℤ b.y2 ≡ int_max start.y stop.y +ℤ width = s.upward.high in
    rw (l, o, r, t) (sym (outline_at width (record { start = start; stop = stop }) wide))

pub boxes_more : (layer : Layer) (width : ℤ) (points : List Point) (at : ℕ) (boxes : List BoxShape) (b : BoxShape) (start stop : Point) → pos 1 ≤ℤ width
    → drop at (wire_segments points) ≡ record { start = start; stop = stop } ∷ drop (at + 1) (wire_segments points)
    → IsSegmentBox layer width start stop b → HasBoxes layer width points at boxes → HasBoxes layer width points (at + 1) (boxes ++ b ∷ [])
boxes_more layer width points at boxes b start stop wide e s h = record {
  layers = λ c i. elim (among_push boxes b c i) [ inl j ↦ h.layers c j | inr f ↦ (let P : BoxShape → Type 0 = λ v. v.layer ≡ layer in subst P f s.layer_is) ];
  edges =
      let w : ℕ = unsigned_abs width in
      let Q : List Segment → Type 0 = λ l. map doubled_edges boxes ++ map (segment_outline w) l ≡ wire_outlines w points in
      let R : Outline → Type 0 =
      λ o. map doubled_edges boxes ++ o ∷ map (segment_outline w) (drop (at + 1) (wire_segments points)) ≡ wire_outlines w points in
      let k : map doubled_edges boxes ++ doubled_edges b ∷ map (segment_outline w) (drop (at + 1) (wire_segments points)) ≡ wire_outlines w points =
      subst R (sym (box_outline layer width start stop b wide s)) (subst Q e h.edges) in
      let S : List Outline → Type 0 = λ l. l ++ map (segment_outline w) (drop (at + 1) (wire_segments points)) ≡ wire_outlines w points in
      subst S (sym (map_push doubled_edges boxes b))
      (append_assoc (map doubled_edges boxes) (doubled_edges b ∷ []) (map (segment_outline w) (drop (at + 1) (wire_segments points))) ∙ k);
}

pub boxes_all : (layer : Layer) (width : ℤ) (points : List Point) (at : ℕ) (boxes : List BoxShape) → length (wire_segments points) ≤ at
    → HasBoxes layer width points at boxes → AreWireBoxes layer width points boxes
boxes_all layer width points at boxes past h =
    let Q : List Segment → Type 0 = λ l. map doubled_edges boxes ++ map (segment_outline (unsigned_abs width)) l ≡ wire_outlines (unsigned_abs width) points in
    record {
      layers = h.layers;
      edges = sym (append-nil (map doubled_edges boxes)) ∙ subst Q (drop_all at (wire_segments points) past) h.edges;
    }

-- ---- the segments by number

-- behind so many segments stands this one
pub record StandsAt (points : List Point) (at : ℕ) (start stop : Point) : Type 0 where
  pub between : IsBetween points start stop
  pub left : drop at (wire_segments points) ≡ record { start = start; stop = stop } ∷ drop (at + 1) (wire_segments points)

among_left_of : (xs : List Segment) (i : ℕ) (s : Segment) (ys : List Segment) → drop i xs ≡ s ∷ ys → Among xs s
among_left_of [] zero s ys e = absurd cc
among_left_of [] (suc i) s ys e = absurd cc
among_left_of (x ∷ xs) zero s ys e = inl cc
among_left_of (x ∷ xs) (suc i) s ys e = inr (among_left_of xs i s ys e)

pub only_segment : (points : List Point) (d : Point) → length points ≡ 1 → StandsAt points 0 (get_or points 0 d) (get_or points 0 d)
only_segment [] d h = absurd (omega arith)
only_segment (p ∷ []) d h = record { between = record { first = inl refl; second = inl refl; segment = inl refl }; left = refl }
only_segment (p ∷ q ∷ ps) d h = absurd (omega arith)

pub next_segment : (points : List Point) (at : ℕ) (d : Point) → at + 1 < length points → StandsAt points at (get_or points at d) (get_or points (at + 1) d)
next_segment [] at d h = absurd (omega arith)
next_segment (p ∷ []) at d h = absurd (omega arith)
next_segment (p ∷ q ∷ ps) at d h =
    let e : at + 1 ≡ suc at = omega arith in
    let P : ℕ → Type 0 = λ j. StandsAt (p ∷ q ∷ ps) at (get_or (p ∷ q ∷ ps) at d) (get_or (p ∷ q ∷ ps) j d) in
    let l = left_segments p (q ∷ ps) at d (omega arith) in
    subst P (sym e) (record {
      between = record {
        first = item_among (p ∷ q ∷ ps) at (get_or (p ∷ q ∷ ps) at d) (omega arith) (same_default (p ∷ q ∷ ps) at d (omega arith));
        second = inr (item_among (q ∷ ps) at (get_or (q ∷ ps) at d) (omega arith) (same_default (q ∷ ps) at d (omega arith)));
        segment = among_left_of (segments_from p (q ∷ ps)) at (record { start = get_or (p ∷ q ∷ ps) at d; stop = get_or (q ∷ ps) at d })
            (drop (at + 1) (segments_from p (q ∷ ps))) l;
      };
      left = l;
    })
  where
    same_default : (xs : List Point) (i : ℕ) (d : Point) → i < length xs → get_or xs i d ≡ get_or xs i (get_or xs i d)
    same_default [] i d h = absurd (omega arith)
    same_default (x ∷ xs) zero d h = refl
    same_default (x ∷ xs) (suc i) d h = same_default xs i d (omega arith)

pub length_wire : (points : List Point) → 1 < length points → length (wire_segments points) + 1 ≡ length points
length_wire [] h = absurd (omega arith)
length_wire (p ∷ []) h = absurd (omega arith)
length_wire (p ∷ q ∷ ps) h = omega (arith, length_segments p (q ∷ ps))
