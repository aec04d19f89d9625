-- The points of wires, one after another.
use Rattle.std.proofs.Common.{◌≡◌, ◌≢◌, inl, inr, ℕ, ◌<◌, true, ℤ, pos, ◌-ℤ◌, ◌+ℤ◌, ◌<ℤ◌, List, [], ◌∷◌, ◌++◌, length, map, flat_map, codes, refl, sym, ◌∙◌, ap, subst, append_assoc, arith}
use Rattle.std.specs.Int.{int_min, int_max}
use Rattle.std.proofs.Math.Nat.{pos_of_ne-zero}
use Rattle.std.proofs.lemmas.Int.{ints, clamps}
use Rattle.std.proofs.lemmas.List.{append-nil}
use Rattle.geom.specs.declared.layer.Layer.{Layer}
use Rattle.geom.specs.declared.point.Point.{Point}
use Rattle.geom.specs.Squares.{BoxShape}
use Rattle.geom.specs.CifCommands.{CifScale, CifPart, Letters, Unsigned, DrawsWire, is_number_part, point_parts, command_parts}
use Rattle.geom.specs.CifCodes.{SomeIs, IsTooGreat, part_numbers, command_distances, outline_distances}
use Rattle.geom.specs.CifShapes.{Segment, Outline, segments_from, segment_outline, wire_outlines, outlined_box}
use Rattle.geom.specs.CifDrawings.{doubled, scaled}
use Rattle.cif_values.specs.Parts.{PartsAt, number_in}
use Rattle.cif_values.specs.Numbers.{StandsFor}
use Rattle.cif_codes.specs.declared.scale.Scale.{Scale}
use Rattle.cif_codes.specs.declared.bends.Bend.{Bend}
use Rattle.cif_codes.specs.declared.edges.Edges.{Edges}
use Rattle.cif_codes.specs.Scales.{ratio, grid_of}
use Rattle.cif_codes.specs.Bends.{BendAt, EdgesStand, AreNearEdges}
use Rattle.cif_figures.specs.Rectangles.{outline_of, IsDrawn}
use Rattle.cif_figures.specs.Wires.{IsClearWire}
use Rattle.cif_figures.proofs.Clear.{IsClear, clear_front, clear_behind, drawn_edge}
use Rattle.cif_figures.proofs.PolygonPoints.{point_numbers}
use Rattle.cif_figures.proofs.Words.{word, number_word}

-- the segment from one point to another
abbrev pub way : Point → Point → Segment
way p q = record { start = doubled p; stop = doubled q }

-- the rectangles from a point to the next, and so on
abbrev pub outlines_from : ℕ → Point → List Point → List Outline
outlines_from w p ps = map (segment_outline w) (segments_from (doubled p) (map doubled ps))

-- the width and the numbers of two points
abbrev pub way_numbers : ℕ → Point → Point → List ℤ
way_numbers w p q = pos w ∷ p.x ∷ p.y ∷ q.x ∷ q.y ∷ []

abbrev pub box_of : Scale → Layer → Outline → BoxShape
box_of scale layer = outlined_box layer (scaled (ratio scale))

-- the boxes of a wire
abbrev pub wire_boxes : Scale → Layer → ℕ → List Point → List BoxShape
wire_boxes scale layer w points = map (box_of scale layer) (wire_outlines w (map doubled points))

-- ---- one segment

less_wide : (a b : ℤ) (w : ℕ) → 0 < w → (int_min a b -ℤ pos w) <ℤ (int_max a b +ℤ pos w)
less_wide a b w s = omega (arith, ints, clamps, s)

same_outline : (a b : Outline) → a.left ≡ b.left → a.bottom ≡ b.bottom → a.right ≡ b.right → a.top ≡ b.top → a ≡ b
same_outline a b e f g h = λ i. record { left = e i; bottom = f i; right = g i; top = h i }

-- what is found of a segment, of which no number is too great and no edge off the grid or far
pub record WayFound (scale : Scale) (layer : Layer) (w : ℕ) (p q : Point) (edges : Edges) : Type 0 where
  pub drawn : IsDrawn (ratio scale) edges
  pub box : box_of scale layer (outline_of edges) ≡ box_of scale layer (segment_outline w (way p q))

pub way_found : (scale : Scale) (layer : Layer) (w : ℕ) (p q : Point) (edges : Edges) → 0 < w
    → IsClear (ratio scale) (way_numbers w p q) (outline_distances (segment_outline w (way p q)))
    → EdgesStand (grid_of scale) (way_numbers w p q) (segment_outline w (way p q)) edges → AreNearEdges edges → WayFound scale layer w p q edges
way_found scale layer w p q edges s c e n =
    let o : Outline = segment_outline w (way p q) in
    let f = e.exact c.few in
    record {
      drawn = record {
        left = drawn_edge (ratio scale) o.left edges.left f.0 n.left (λ k. c.on_grid (inl k)) (λ k. c.not_far (inl k));
        bottom = drawn_edge (ratio scale) o.bottom edges.bottom f.1 n.bottom (λ k. c.on_grid (inr (inl k))) (λ k. c.not_far (inr (inl k)));
        right = drawn_edge (ratio scale) o.right edges.right f.2 n.right (λ k. c.on_grid (inr (inr (inl k)))) (λ k. c.not_far (inr (inr (inl k))));
        top = drawn_edge (ratio scale) o.top edges.top f.3 n.top (λ k. c.on_grid (inr (inr (inr (inl k)))))
            (λ k. c.not_far (inr (inr (inr (inl k)))));
        across = less edges.left o.left edges.right o.right f.0 f.2 (less_wide (doubled p).x (doubled q).x w s);
        upward = less edges.bottom o.bottom edges.top o.top f.1 f.3 (less_wide (doubled p).y (doubled q).y w s);
      };
      box = ap (box_of scale layer) (same_outline (outline_of edges) o f.0 f.1 f.2 f.3);
    }
  where
    less : (u a v b : ℤ) → u ≡ a → v ≡ b → a <ℤ b → u <ℤ v
    less u a v b e f l = let P : ℤ → Type 0 = λ z. z <ℤ v in let Q : ℤ → Type 0 = λ z. a <ℤ z in subst P (sym e) (subst Q (sym f) l)

-- ---- the first point

-- the first point is read, and the others stand from a place on
pub record WireBegun (text : List ℕ) (scale : Scale) (layer : Layer) (w stop next : ℕ) (start : Bend) (all : List BoxShape) : Type 0 where
  pub point : Point
  pub rest : List Point
  pub here : BendAt text (grid_of scale) point start
  pub parts : PartsAt text next stop (flat_map point_parts rest)
  pub clear : IsClear (ratio scale) (pos w ∷ point_numbers (point ∷ rest))
      (flat_map outline_distances (wire_outlines w (map doubled (point ∷ rest))))
  pub is : all ≡ wire_boxes scale layer w (point ∷ rest)

-- what is read of a point, where more parts stand behind it
abbrev pub BendLaw : List ℕ → Scale → (from next : ℕ) → Bend → Type 0
BendLaw text scale from next bend =
    (stop : ℕ) (p : Point) (parts : List CifPart) → PartsAt text from stop (point_parts p ++ parts)
    → BendAt text (grid_of scale) p bend × PartsAt text next stop parts

pub wire_begun : (text : List ℕ) (scale : Scale) (layer : Layer) (first w : ℕ) (points : List Point) (from next : ℕ) (start : Bend)
    → (h : IsClearWire text first (ratio scale) w points) → PartsAt text from h.stop (flat_map point_parts points)
    → BendLaw text scale from next start → WireBegun text scale layer w h.stop next start (wire_boxes scale layer w points)
wire_begun text scale layer first w points from next start h p law =
    by points h.some (record { few = h.few; on_grid = h.on_grid; not_far = h.not_far }) p
  where
    by : (points : List Point) → points ≢ []
        → IsClear (ratio scale) (flat_map part_numbers (command_parts (DrawsWire w points))) (command_distances (DrawsWire w points))
        → PartsAt text from h.stop (flat_map point_parts points) → WireBegun text scale layer w h.stop next start (wire_boxes scale layer w points)
    by [] n c p = absurd (n refl)
    by (q ∷ rest) n c p =
        let k = law h.stop q (flat_map point_parts rest) p in record { point = q; rest = rest; here = k.0; parts = k.1; clear = c; is = refl }

-- what is read of a letter at the first place, and of a width behind it
abbrev pub LetterLaw : List ℕ → (first from : ℕ) → Type 0
LetterLaw text first from =
    (stop : ℕ) (letters : List ℕ) (parts : List CifPart) → length letters ≡ 1 → PartsAt text first stop (Letters letters ∷ parts)
    → PartsAt text from stop parts

abbrev pub WidthLaw : List ℕ → (m from behind : ℕ) → ℤ → Type 0
WidthLaw text m from behind width =
    (stop : ℕ) (part : CifPart) (parts : List CifPart) → is_number_part part ≡ true → PartsAt text from stop (part ∷ parts)
    → StandsFor m (number_in part) width × PartsAt text behind stop parts

-- the width and the first point are read
pub record WireRead (text : List ℕ) (scale : Scale) (layer : Layer) (w stop next : ℕ) (width : ℤ) (start : Bend) (all : List BoxShape) : Type 0 where
  pub some : 0 < w
  pub stands : StandsFor (grid_of scale) (pos w) (word width)
  pub begun : WireBegun text scale layer w stop next start all

pub wire_read : (text : List ℕ) (scale : Scale) (layer : Layer) (first w : ℕ) (points : List Point)
    (h : IsClearWire text first (ratio scale) w points) (m letter from next : ℕ) (width : ℤ) (start : Bend) → m ≡ grid_of scale
    → LetterLaw text first letter → WidthLaw text m letter from width
    → BendLaw text scale from next start → WireRead text scale layer w h.stop next width start (wire_boxes scale layer w points)
wire_read text scale layer first w points h m letter from next width start e ll wl bl =
    let a = ll h.stop (codes "W") (Unsigned w ∷ flat_map point_parts points) refl h.parts in
    let b = wl h.stop (Unsigned w) (flat_map point_parts points) refl a in
    let P : ℕ → Type 0 = λ n. StandsFor n (pos w) width in
    let Q : ℤ → Type 0 = λ v. StandsFor (grid_of scale) (pos w) v in
    record {
      some = pos_of_ne-zero (λ z. h.even (inl z));
      stands = subst Q (sym (number_word width b.0.near)) (subst P e b.0);
      begun = wire_begun text scale layer first w points from next start h b.1 bl;
    }

-- the only point is a segment to itself
pub record WireSingle (scale : Scale) (layer : Layer) (w : ℕ) (point : Point) (all : List BoxShape) : Type 0 where
  pub clear : IsClear (ratio scale) (way_numbers w point point) (outline_distances (segment_outline w (way point point)))
  pub is : all ≡ box_of scale layer (segment_outline w (way point point)) ∷ []

pub wire_single : (text : List ℕ) (scale : Scale) (layer : Layer) (w stop next : ℕ) (start : Bend) (all : List BoxShape)
    → (b : WireBegun text scale layer w stop next start all) → b.rest ≡ [] → WireSingle scale layer w b.point all
wire_single text scale layer w stop next start all b e = by b.rest b.clear b.is e
  where
    twice : SomeIs IsTooGreat (way_numbers w b.point b.point) → SomeIs IsTooGreat (pos w ∷ point_numbers (b.point ∷ []))
    twice (inl h) = inl h
    twice (inr (inl h)) = inr (inl h)
    twice (inr (inr (inl h))) = inr (inr (inl h))
    twice (inr (inr (inr h))) = inr h

    by : (rest : List Point)
        → IsClear (ratio scale) (pos w ∷ point_numbers (b.point ∷ rest))
        (flat_map outline_distances (wire_outlines w (map doubled (b.point ∷ rest))))
        → all ≡ wire_boxes scale layer w (b.point ∷ rest) → rest ≡ [] → WireSingle scale layer w b.point all
    by [] c i e = record { clear = record { few = λ g. c.few (twice g); on_grid = c.on_grid; not_far = c.not_far }; is = i }
    by (q ∷ rest) c i e = absurd cc

-- what is found of a segment between two points that are read
abbrev pub EdgesLaw : List ℕ → ℤ → (last bend : Bend) → Edges → Type 0
EdgesLaw text width last bend edges =
    (m w : ℕ) (p q : Point) → StandsFor m (pos w) width → BendAt text m p last → BendAt text m q bend
    → EdgesStand m (way_numbers w p q) (segment_outline w (way p q)) edges

pub single_found : (text : List ℕ) (scale : Scale) (layer : Layer) (w stop next : ℕ) (width : ℤ) (start : Bend) (all : List BoxShape) (edges : Edges)
    → (r : WireRead text scale layer w stop next width start all) → r.begun.rest ≡ []
    → EdgesLaw text (word width) start start edges → AreNearEdges edges
    → WayFound scale layer w r.begun.point r.begun.point edges
single_found text scale layer w stop next width start all edges r e law near =
    let b = r.begun in
    let s = wire_single text scale layer w stop next start all b e in
    way_found scale layer w b.point b.point edges r.some s.clear (law (grid_of scale) w b.point b.point r.stands b.here b.here) near

pub single_is : (text : List ℕ) (scale : Scale) (layer : Layer) (w stop next : ℕ) (width : ℤ) (start : Bend)
    (all found pushed : List BoxShape) (edges : Edges) (b : BoxShape)
    → (r : WireRead text scale layer w stop next width start all) → r.begun.rest ≡ []
    → EdgesLaw text (word width) start start edges → AreNearEdges edges
    → b ≡ box_of scale layer (outline_of edges) → found ≡ [] → pushed ≡ found ++ b ∷ [] → pushed ≡ all
single_is text scale layer w stop next width start all found pushed edges b r e law near f g h =
    let s = wire_single text scale layer w stop next start all r.begun e in
    let k = single_found text scale layer w stop next width start all edges r e law near in
    h
    ∙ (ap (λ (l : List BoxShape). l ++ b ∷ []) g
    ∙ (ap (λ (x : BoxShape). x ∷ []) (f ∙ k.box) ∙ sym s.is))

-- ---- the loop

-- some segments are drawn, the last of them up to a point, and the others stand from a place on
pub record WireLeft (text : List ℕ) (scale : Scale) (layer : Layer) (w stop : ℕ) (all : List BoxShape) (from : ℕ) (last : Bend)
    (found : List BoxShape) : Type 0 where
  pub start : Point
  pub rest : List Point
  pub here : BendAt text (grid_of scale) start last
  pub parts : PartsAt text from stop (flat_map point_parts rest)
  pub clear : IsClear (ratio scale) (pos w ∷ start.x ∷ start.y ∷ point_numbers rest) (flat_map outline_distances (outlines_from w start rest))
  pub join : all ≡ found ++ map (box_of scale layer) (outlines_from w start rest)

-- the next segment
pub record WireNext (text : List ℕ) (scale : Scale) (layer : Layer) (w stop : ℕ) (all : List BoxShape) (from : ℕ) (last : Bend)
    (found : List BoxShape) : Type 0 where
  pub start : Point
  pub point : Point
  pub rest : List Point
  pub here : BendAt text (grid_of scale) start last
  pub parts : PartsAt text from stop (point_parts point ++ flat_map point_parts rest)
  pub between : IsClear (ratio scale) (way_numbers w start point) (outline_distances (segment_outline w (way start point)))
  pub behind : IsClear (ratio scale) (pos w ∷ point.x ∷ point.y ∷ point_numbers rest) (flat_map outline_distances (outlines_from w point rest))
  pub join : all ≡ found ++ box_of scale layer (segment_outline w (way start point)) ∷ map (box_of scale layer) (outlines_from w point rest)

pub wire_begin : (text : List ℕ) (scale : Scale) (layer : Layer) (w stop next : ℕ) (start : Bend) (all : List BoxShape)
    → (b : WireBegun text scale layer w stop next start all) → (b.rest ≡ [] → ⊥) → WireLeft text scale layer w stop all next start []
wire_begin text scale layer w stop next start all b n = by b.rest b.parts b.clear b.is n
  where
    by : (rest : List Point) → PartsAt text next stop (flat_map point_parts rest)
        → IsClear (ratio scale) (pos w ∷ point_numbers (b.point ∷ rest))
        (flat_map outline_distances (wire_outlines w (map doubled (b.point ∷ rest))))
        → all ≡ wire_boxes scale layer w (b.point ∷ rest) → (rest ≡ [] → ⊥) → WireLeft text scale layer w stop all next start []
    by [] p c i n = absurd (n refl)
    by (q ∷ rest) p c i n = record { start = b.point; rest = q ∷ rest; here = b.here; parts = p; clear = c; join = i }

-- what is clear of two points and those behind them is clear of the second and those behind it
clear_rest : (scale : CifScale) (w : ℕ) (p q : Point) (zs ds es : List ℤ)
    → IsClear scale (pos w ∷ p.x ∷ p.y ∷ q.x ∷ q.y ∷ zs) (ds ++ es) → IsClear scale (pos w ∷ q.x ∷ q.y ∷ zs) es
clear_rest scale w p q zs ds es c =
    let b : IsClear scale (q.x ∷ q.y ∷ zs) es = clear_behind scale (pos w ∷ p.x ∷ p.y ∷ []) (q.x ∷ q.y ∷ zs) ds es c in
    record { few = λ g. elim g [ inl k ↦ c.few (inl k) | inr k ↦ b.few k ]; on_grid = b.on_grid; not_far = b.not_far }

pub wire_next : (text : List ℕ) (scale : Scale) (layer : Layer) (w stop : ℕ) (all : List BoxShape) (from : ℕ) (last : Bend) (found : List BoxShape)
    → (u : WireLeft text scale layer w stop all from last found) → (u.rest ≡ [] → ⊥) → WireNext text scale layer w stop all from last found
wire_next text scale layer w stop all from last found u n = by u.rest u.parts u.clear u.join n
  where
    by : (rest : List Point) → PartsAt text from stop (flat_map point_parts rest)
        → IsClear (ratio scale) (pos w ∷ u.start.x ∷ u.start.y ∷ point_numbers rest) (flat_map outline_distances (outlines_from w u.start rest))
        → all ≡ found ++ map (box_of scale layer) (outlines_from w u.start rest) → (rest ≡ [] → ⊥)
        → WireNext text scale layer w stop all from last found
    by [] p c j n = absurd (n refl)
    by (q ∷ rest) p c j n =
        let ds : List ℤ = outline_distances (segment_outline w (way u.start q)) in
        let es : List ℤ = flat_map outline_distances (outlines_from w q rest) in
        record {
          start = u.start;
          point = q;
          rest = rest;
          here = u.here;
          parts = p;
          between = clear_front (ratio scale) (way_numbers w u.start q) (point_numbers rest) ds es c;
          behind = clear_rest (ratio scale) w u.start q (point_numbers rest) ds es c;
          join = j;
        }

-- the next segment, whose edges are found
pub record WireStep (text : List ℕ) (scale : Scale) (layer : Layer) (w stop : ℕ) (all : List BoxShape) (from next : ℕ) (last bend : Bend)
    (found : List BoxShape) (edges : Edges) : Type 0 where
  pub segment : WireNext text scale layer w stop all from last found
  pub here : BendAt text (grid_of scale) segment.point bend
  pub parts : PartsAt text next stop (flat_map point_parts segment.rest)
  pub way : WayFound scale layer w segment.start segment.point edges

pub wire_step : (text : List ℕ) (scale : Scale) (layer : Layer) (w stop : ℕ) (all : List BoxShape) (from next : ℕ) (width : ℤ) (last bend : Bend)
    (found : List BoxShape) (edges : Edges) → (u : WireLeft text scale layer w stop all from last found) → (u.rest ≡ [] → ⊥) → 0 < w
    → StandsFor (grid_of scale) (pos w) width → BendLaw text scale from next bend → EdgesLaw text width last bend edges → AreNearEdges edges
    → WireStep text scale layer w stop all from next last bend found edges
wire_step text scale layer w stop all from next width last bend found edges u n some st bl el near =
    let k = wire_next text scale layer w stop all from last found u n in
    let m = bl stop k.point (flat_map point_parts k.rest) k.parts in
    record {
      segment = k;
      here = m.0;
      parts = m.1;
      way = way_found scale layer w k.start k.point edges some k.between (el (grid_of scale) w k.start k.point st k.here m.0) near;
    }

pub wire_more : (text : List ℕ) (scale : Scale) (layer : Layer) (w stop : ℕ) (all : List BoxShape) (from next : ℕ) (last bend : Bend)
    (found pushed : List BoxShape) (edges : Edges) (b : BoxShape) → WireStep text scale layer w stop all from next last bend found edges
    → b ≡ box_of scale layer (outline_of edges) → pushed ≡ found ++ b ∷ [] → WireLeft text scale layer w stop all next bend pushed
wire_more text scale layer w stop all from next last bend found pushed edges b s e f =
    let n = s.segment in
    let more : List BoxShape = map (box_of scale layer) (outlines_from w n.point n.rest) in
    record {
      start = n.point;
      rest = n.rest;
      here = s.here;
      parts = s.parts;
      clear = n.behind;
      join =
          n.join
          ∙ (ap (λ (x : BoxShape). found ++ x ∷ more) (sym (e ∙ s.way.box))
          ∙ (sym (append_assoc found (b ∷ []) more) ∙ ap (λ (l : List BoxShape). l ++ more) (sym f)));
    }

pub wire_end : (text : List ℕ) (scale : Scale) (layer : Layer) (w stop : ℕ) (all : List BoxShape) (from : ℕ) (last : Bend) (found : List BoxShape)
    → (u : WireLeft text scale layer w stop all from last found) → u.rest ≡ [] → found ≡ all
wire_end text scale layer w stop all from last found u e =
    sym (append-nil found) ∙ sym (u.join ∙ ap (λ (l : List Point). found ++ map (box_of scale layer) (outlines_from w u.start l)) e)
