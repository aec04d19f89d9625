-- The points of polygons, one after another.
use Rattle.std.proofs.Common.{◌≡◌, inl, inr, ℕ, ◌-◌, true, ℤ, pos, ◌*ℤ◌, List, [], ◌∷◌, ◌++◌, flat_map, Option, Some, None, refl, sym, ◌∙◌, ap, subst, append_assoc}
use Rattle.std.proofs.lemmas.Bool.{true_from_ne_false}
use Rattle.std.proofs.lemmas.List.{append-nil}
use Rattle.geom.specs.declared.layer.Layer.{Layer}
use Rattle.geom.specs.declared.point.Point.{Point}
use Rattle.geom.specs.declared.cif_code.CifCode.{CifCode}
use Rattle.geom.specs.declared.cif_code.CifCode.TheVariants.{C3, C7, C8, C9}
use Rattle.geom.specs.Squares.{BoxShape}
use Rattle.geom.specs.CifCommands.{CifScale, CifCommand, DrawsPolygon, point_parts, command_parts}
use Rattle.geom.specs.CifCodes.{part_numbers, point_distances}
use Rattle.geom.specs.CifShapes.{ArePolygonBoxes, is_rectilinear}
use Rattle.geom.specs.CifDrawings.{CifState, scale_of, drawn_in}
use Rattle.cif_shapes.specs.Polygons.{IsPolygon}
use Rattle.cif_values.specs.Parts.{PartsAt}
use Rattle.cif_values.specs.Values.{PointStands, IsNearPoint}
use Rattle.cif_kinds.specs.declared.kinds.CommandKind.TheVariants as kind
use Rattle.cif_codes.specs.declared.scale.Scale.{Scale}
use Rattle.cif_codes.specs.declared.points.Corners.{Corners}
use Rattle.cif_codes.specs.Corners.{CornersChecked}
use Rattle.cif_codes.specs.Scales.{ratio, grid_of, IsScale}
use Rattle.cif_codes.specs.Least.{IsLeastCode}
use Rattle.cif_figures.specs.Figures.{CommandOf, Leads, Draws}
use Rattle.cif_figures.specs.Rectangles.{IsDrawnEdge}
use Rattle.cif_figures.specs.Scaling.{IsScaledPoint, AreScaledPoints}
use Rattle.cif_figures.specs.Polygons.{AreClearPoints}
use Rattle.cif_figures.proofs.ByKind.{PartsLaw, is_polygon, parts_of}
use Rattle.cif_figures.proofs.Simple.{least_there, leads_by}
use Rattle.cif_figures.proofs.Clear.{IsClear, clear_front, clear_behind, drawn_twice}
use Rattle.cif_figures.proofs.Drawing.{scaled_state, shaped}
use Rattle.cif_figures.proofs.Scaling.{same_point, scaled_polygon, scaled_points_are}

-- the numbers of points
abbrev pub point_numbers : List Point → List ℤ
point_numbers ps = flat_map part_numbers (flat_map point_parts ps)

-- ---- the loop

-- some points are scaled, and the others stand from a place on
pub record PointsLeft (text : List ℕ) (scale : Scale) (stop : ℕ) (points : List Point) (from : ℕ) (found : List Point) : Type 0 where
  pub rest : List Point
  pub parts : PartsAt text from stop (flat_map point_parts rest)
  pub clear : IsClear (ratio scale) (point_numbers rest) (flat_map point_distances rest)
  pub join : (more : List Point) → AreScaledPoints scale rest more → AreScaledPoints scale points (found ++ more)

-- the next point
pub record PointNext (text : List ℕ) (scale : Scale) (stop : ℕ) (points : List Point) (from : ℕ) (found : List Point) : Type 0 where
  pub point : Point
  pub rest : List Point
  pub parts : PartsAt text from stop (point_parts point ++ flat_map point_parts rest)
  pub here : IsClear (ratio scale) (point.x ∷ point.y ∷ []) (point_distances point)
  pub behind : IsClear (ratio scale) (point_numbers rest) (flat_map point_distances rest)
  pub join : (more : List Point) → AreScaledPoints scale (point ∷ rest) more → AreScaledPoints scale points (found ++ more)

pub points_begin : (text : List ℕ) (scale : Scale) (points : List Point) (at : ℕ) → (h : AreClearPoints text at (ratio scale) points)
    → PointsLeft text scale h.stop points at []
points_begin text scale points at h =
    record { rest = points; parts = h.parts; clear = record { few = h.few; on_grid = h.on_grid; not_far = h.not_far }; join = λ more k. k }

pub points_next : (text : List ℕ) (scale : Scale) (stop : ℕ) (points : List Point) (from : ℕ) (found : List Point)
    → (u : PointsLeft text scale stop points from found)
    → (u.rest ≡ [] → ⊥) → PointNext text scale stop points from found
points_next text scale stop points from found u n = by u.rest u.parts u.clear u.join n
  where
    by : (rest : List Point) → PartsAt text from stop (flat_map point_parts rest)
        → IsClear (ratio scale) (point_numbers rest) (flat_map point_distances rest)
        → ((more : List Point) → AreScaledPoints scale rest more → AreScaledPoints scale points (found ++ more)) → (rest ≡ [] → ⊥)
        → PointNext text scale stop points from found
    by [] p c j n = absurd (n refl)
    by (q ∷ rest) p c j n = record {
      point = q;
      rest = rest;
      parts = p;
      here = clear_front (ratio scale) (q.x ∷ q.y ∷ []) (point_numbers rest) (point_distances q) (flat_map point_distances rest) c;
      behind = clear_behind (ratio scale) (q.x ∷ q.y ∷ []) (point_numbers rest) (point_distances q) (flat_map point_distances rest) c;
      join = j;
    }

pub points_more : (text : List ℕ) (scale : Scale) (stop : ℕ) (points : List Point) (from next : ℕ) (found pushed : List Point) (q : Point)
    → (n : PointNext text scale stop points from found) → PartsAt text next stop (flat_map point_parts n.rest) → IsScaledPoint scale n.point q
    → pushed ≡ found ++ q ∷ [] → PointsLeft text scale stop points next pushed
points_more text scale stop points from next found pushed q n p s e = record {
  rest = n.rest;
  parts = p;
  clear = n.behind;
  join = λ more k. (
      let P : List Point → Type 0 = λ l. AreScaledPoints scale points l in
      subst P (sym (ap (λ (l : List Point). l ++ more) e ∙ append_assoc found (q ∷ []) more)) (n.join (q ∷ more) (s, k)));
}

pub points_end : (text : List ℕ) (scale : Scale) (stop : ℕ) (points : List Point) (from : ℕ) (found : List Point)
    → (u : PointsLeft text scale stop points from found)
    → u.rest ≡ [] → AreScaledPoints scale points found
points_end text scale stop points from found u e =
    let P : List Point → Type 0 = λ l. AreScaledPoints scale points l in
    let Q : List Point → Type 0 = λ l. AreScaledPoints scale l [] in
    subst P (append-nil found) (u.join [] (subst Q (sym e) tt))

-- the coordinates of the next point
pub next_x : (scale : Scale) (divisor : ℕ) (p q : Point) → IsClear (ratio scale) (p.x ∷ p.y ∷ []) (point_distances p) → PointStands divisor p q
    → IsNearPoint q
    → IsDrawnEdge (ratio scale) (pos 2 *ℤ q.x)
next_x scale divisor p q c s n =
    drawn_twice (ratio scale) p.x q.x (s.0.exact (λ g. c.few (inl g))) n.0 (λ k. c.on_grid (inl k)) (λ k. c.not_far (inl k))

pub next_y : (scale : Scale) (divisor : ℕ) (p q : Point) → IsClear (ratio scale) (p.x ∷ p.y ∷ []) (point_distances p) → PointStands divisor p q
    → IsNearPoint q
    → IsDrawnEdge (ratio scale) (pos 2 *ℤ q.y)
next_y scale divisor p q c s n =
    drawn_twice (ratio scale) p.y q.y (s.1.exact (λ g. c.few (inr (inl g)))) n.1 (λ k. c.on_grid (inr (inl k))) (λ k. c.not_far (inr (inl k)))

-- the point that is read
pub same_stands : (divisor : ℕ) (scale : Scale) (p q r : Point) → IsClear (ratio scale) (p.x ∷ p.y ∷ []) (point_distances p)
    → PointStands divisor p q → IsScaledPoint scale q r
    → IsScaledPoint scale p r
same_stands divisor scale p q r c s h =
    let P : Point → Type 0 = λ v. IsScaledPoint scale v r in
    subst P (same_point q p (s.0.exact (λ g. c.few (inl g))) (s.1.exact (λ g. c.few (inr (inl g))))) h

-- ---- polygons

-- the points of a polygon that stands in a text
pub record PolygonHere (text : List ℕ) (at : ℕ) (c : CifCommand) : Type 0 where
  pub points : List Point
  pub is : c ≡ DrawsPolygon points
  pub stop : ℕ
  pub parts : PartsAt text at stop (flat_map point_parts points)

pub polygon_at : (text : List ℕ) (first end at : ℕ) (k : CommandOf text first end kind.Polygon) → PartsLaw
    → ((stop : ℕ) (points : List Point) → PartsAt text first stop (command_parts (DrawsPolygon points))
    → PartsAt text at stop (flat_map point_parts points))
    → PolygonHere text at k.stands.here.command
polygon_at text first end at k law behind =
    let o = is_polygon k.stands.here.command k.kind_is in
    record {
      points = o.0;
      is = o.1;
      stop = end - 1;
      parts = behind (end - 1) o.0 (parts_of text first end kind.Polygon k (DrawsPolygon o.0) o.1 tt law);
    }

-- what is found of the points that stand at a place
abbrev pub CornersLaw : List ℕ → ℕ → Scale → Corners → Type 0
CornersLaw text at scale corners =
    (stop : ℕ) (points : List Point) → PartsAt text at stop (flat_map point_parts points)
    → CornersChecked (grid_of scale) (ratio scale) points corners

-- which code polygons of such points meet
abbrev pub PolygonLaw : Option Layer → Corners → Option CifCode → Type 0
PolygonLaw layer corners r =
    (s : CifState) (divisor : ℕ) (points : List Point) → s.layer ≡ layer → CornersChecked divisor (scale_of s.opening) points corners
    → IsLeastCode s (DrawsPolygon points) r

pub polygon_code_is : (s : CifState) (text : List ℕ) (at : ℕ) (points : List Point) (stop : ℕ) (scale : Scale) (layer : Option Layer)
    (corners : Corners) (r t : Option CifCode)
    → PartsAt text at stop (flat_map point_parts points) → CornersLaw text at scale corners → PolygonLaw layer corners r → r ≡ t
    → scale_of s.opening ≡ ratio scale
    → s.layer ≡ layer → IsLeastCode s (DrawsPolygon points) t
polygon_code_is s text at points stop scale layer corners r t p cl pl e f g =
    let P : CifScale → Type 0 = λ v. CornersChecked (grid_of scale) v points corners in
    let Q : Option CifCode → Type 0 = λ v. IsLeastCode s (DrawsPolygon points) v in
    subst Q e (pl s (grid_of scale) points g (subst P (sym f) (cl stop points p)))

pub polygon_fault : (s : CifState) (c : CifCommand) (text : List ℕ) (at : ℕ) (scale : Scale) (layer : Option Layer) (corners : Corners)
    (r t : Option CifCode)
    → PolygonHere text at c → CornersLaw text at scale corners → PolygonLaw layer corners r → r ≡ t → Draws s (ratio scale) layer → IsLeastCode s c t
polygon_fault s c text at scale layer corners r t h cl pl e d =
    least_there s c (DrawsPolygon h.points) t t h.is refl (polygon_code_is s text at h.points h.stop scale layer corners r t h.parts cl pl e
    d.scale_is d.layer_is)

pub polygon_bare : (c : CifCommand) (text : List ℕ) (at : ℕ) (scale : Scale) (layer : Option Layer) (corners : Corners) (r : Option CifCode)
    → PolygonHere text at c → CornersLaw text at scale corners → PolygonLaw layer corners r → r ≡ None → layer ≡ None → ⊥
polygon_bare c text at scale layer corners r h cl pl e f =
    polygon_code_is (scaled_state (ratio scale) None) text at h.points h.stop scale layer corners r None h.parts cl pl e refl (sym f) C3 refl

-- the points of a polygon that meets no code
pub record PolygonClear (text : List ℕ) (at : ℕ) (scale : Scale) (points : List Point) : Type 0 where
  pub points_clear : AreClearPoints text at (ratio scale) points
  pub rectilinear : is_rectilinear points ≡ true

pub polygon_clear : (c : CifCommand) (text : List ℕ) (at : ℕ) (scale : Scale) (layer : Option Layer) (corners : Corners) (r : Option CifCode)
    → (h : PolygonHere text at c) → CornersLaw text at scale corners → PolygonLaw layer corners r → r ≡ None → PolygonClear text at scale h.points
polygon_clear c text at scale layer corners r h cl pl e =
    let n : IsLeastCode (scaled_state (ratio scale) layer) (DrawsPolygon h.points) None =
    polygon_code_is (scaled_state (ratio scale) layer) text at h.points h.stop scale layer corners r None h.parts cl pl e refl refl in
    record {
      points_clear = record { stop = h.stop; parts = h.parts; few = λ g. n C8 (inl g); on_grid = λ g. n C7 g; not_far = λ g. n C8 (inr g) };
      rectilinear = true_from_ne_false (is_rectilinear h.points) (λ g. n C9 g);
    }

pub polygon_is : (c : CifCommand) (text : List ℕ) (at : ℕ) (scale : Scale) (layer : Option Layer) (corners : Corners) (r : Option CifCode)
    (found : List Point)
    → IsScale scale → PolygonHere text at c → CornersLaw text at scale corners → PolygonLaw layer corners r → r ≡ None
    → ((points : List Point) → AreClearPoints text at (ratio scale) points → AreScaledPoints scale points found) → IsPolygon found
polygon_is c text at scale layer corners r found s h cl pl e f =
    let k = polygon_clear c text at scale layer corners r h cl pl e in
    scaled_polygon scale h.points found s (f h.points k.points_clear) k.rectilinear

pub polygon_leads : (s : CifState) (c : CifCommand) (text : List ℕ) (at : ℕ) (scale : Scale) (given : Option Layer) (layer : Layer)
    (corners : Corners) (r : Option CifCode)
    (found : List Point) (boxes : List BoxShape) → PolygonHere text at c → CornersLaw text at scale corners → PolygonLaw given corners r
    → r ≡ None → given ≡ Some layer
    → ((points : List Point) → AreClearPoints text at (ratio scale) points → AreScaledPoints scale points found) → ArePolygonBoxes layer found boxes
    → Draws s (ratio scale) given → Leads s c (λ place. drawn_in s place boxes 0 s.opening)
polygon_leads s c text at scale given layer corners r found boxes h cl pl e g f b d =
    let k = polygon_clear c text at scale given corners r h cl pl e in
    let P : List Point → Type 0 = λ l. ArePolygonBoxes layer l boxes in
    leads_by s c (DrawsPolygon h.points) None (λ place. drawn_in s place boxes 0 s.opening) h.is refl
    (polygon_code_is s text at h.points h.stop scale given corners r None h.parts cl pl e d.scale_is d.layer_is)
    (λ place. (
      boxes,
      shaped s (DrawsPolygon h.points) (ratio scale) layer boxes d.scale_is (d.layer_is ∙ g)
          (subst P (scaled_points_are scale h.points found (f h.points k.points_clear)) b),
      refl,
    ))
