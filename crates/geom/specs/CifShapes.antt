-- The boxes of polygons and wires.
use Rattle.std.specs.Prelude.{◌≡◌, ℕ, zero, suc, ◌%◌, Bool, true, false, not, ◌&&◌, ◌||◌, ◌==◌, nat_le, ℤ, pos, negsuc, ◌+ℤ◌, ◌-ℤ◌, ◌≤ℤ◌, ◌<ℤ◌, int_lt, int_le, List, [], ◌∷◌, ◌++◌, length, map, count_by, ◌↔◌, if◌then◌else◌, IsTrue}
use Rattle.std.specs.Int.{int_min, int_max}
use Rattle.std.specs.List.{list_all}
use Rattle.geom.specs.declared.layer.Layer.{Layer}
use Rattle.geom.specs.declared.point.Point.{Point}
use Rattle.geom.specs.Squares.{BoxShape}
use Rattle.geom.specs.Rows.{Squares, Among, Pairwise, IsRun}

-- the way from one point to another
pub record Segment : Type 0 where
  pub start : Point
  pub stop : Point

-- the ways from a point to the next, and so on
abbrev pub segments_from : Point → List Point → List Segment
segments_from p [] = []
segments_from p (q ∷ points) = record { start = p; stop = q } ∷ segments_from q points

-- the sides of a polygon: the last leads back to the first point
abbrev pub polygon_sides : List Point → List Segment
polygon_sides [] = []
polygon_sides (p ∷ points) = segments_from p (points ++ p ∷ [])

-- the segments of a wire: one point is a segment to itself
abbrev pub wire_segments : List Point → List Segment
wire_segments [] = []
wire_segments (p ∷ []) = record { start = p; stop = p } ∷ []
wire_segments (p ∷ q ∷ points) = segments_from p (q ∷ points)

abbrev pub is_zero : ℤ → Bool
is_zero (pos zero) = true
is_zero (pos (suc n)) = false
is_zero (negsuc n) = false

-- exactly one of the two numbers is 0
abbrev pub is_along_axis : ℤ → ℤ → Bool
is_along_axis x y = if is_zero x then not (is_zero y) else is_zero y

-- Its ends differ in exactly one coordinate.
abbrev pub is_axis_side : Segment → Bool
is_axis_side s = is_along_axis (s.stop.x -ℤ s.start.x) (s.stop.y -ℤ s.start.y)

-- Its ends differ in at most one coordinate.
abbrev pub is_axis_segment : Segment → Bool
is_axis_segment s = is_zero (s.stop.x -ℤ s.start.x) || is_zero (s.stop.y -ℤ s.start.y)

-- There are at least 4 points, and each two neighbours differ in exactly one coordinate, the last and the first among them.
abbrev pub is_rectilinear : List Point → Bool
is_rectilinear points = nat_le 4 (length points) && list_all is_axis_side (polygon_sides points)

-- The ray from the centre of the square (x, y) to the east meets the side, which is vertical.
abbrev pub meets_ray : ℤ → ℤ → Segment → Bool
meets_ray x y s =
    is_zero (s.stop.x -ℤ s.start.x) && int_lt x s.start.x
    && int_le (int_min s.start.y s.stop.y) y && int_lt y (int_max s.start.y s.stop.y)

-- The square is inside: the ray meets an odd number of sides.
abbrev pub is_inside_polygon : List Point → ℤ → ℤ → Bool
is_inside_polygon points x y = count_by (meets_ray x y) (polygon_sides points) % 2 == 1

-- the squares inside
abbrev pub InPolygon : List Point → Squares
InPolygon points x y = IsTrue (is_inside_polygon points x y)

-- These are the heights of the points, from low to high.
pub record AreHeights (points : List Point) (heights : List ℤ) : Type 0 where
  pub rising : Pairwise (λ low high. low <ℤ high) heights
  pub of_points : (y : ℤ) → Among heights y ↔ ((p : Point) × Among points p × (p.y ≡ y))

-- The box is a maximal run of the squares between two heights.
pub record IsStripRun (S : Squares) (layer : Layer) (low high : ℤ) (b : BoxShape) : Type 0 where
  pub layer_is : b.layer ≡ layer
  pub bottom : b.y1 ≡ low
  pub top : b.y2 ≡ high
  pub order : b.x1 <ℤ b.x2
  pub run : IsRun S low b.x1 b.x2

-- These are all the maximal runs between two heights, from left to right.
pub record AreStripRuns (S : Squares) (layer : Layer) (low high : ℤ) (runs : List BoxShape) : Type 0 where
  pub each : (b : BoxShape) → Among runs b → IsStripRun S layer low high b
  pub covers : (x : ℤ) → S x low → (b : BoxShape) × Among runs b × (b.x1 ≤ℤ x) × (x <ℤ b.x2)
  pub rising : Pairwise (λ left right. left.x1 <ℤ right.x1) runs

-- The boxes are the runs between each two neighbouring heights, from low to high.
abbrev pub AreStrips : Squares → Layer → List ℤ → List BoxShape → Type 0
AreStrips S layer [] boxes = boxes ≡ []
AreStrips S layer (low ∷ []) boxes = boxes ≡ []
AreStrips S layer (low ∷ high ∷ heights) boxes =
    (runs : List BoxShape) × (more : List BoxShape) × (boxes ≡ runs ++ more) × AreStripRuns S layer low high runs
    × AreStrips S layer (high ∷ heights) more

-- The boxes of a polygon.
pub record ArePolygonBoxes (layer : Layer) (points : List Point) (boxes : List BoxShape) : Type 0 where
  pub heights : List ℤ
  pub are_heights : AreHeights points heights
  pub strips : AreStrips (InPolygon points) layer heights boxes

-- twice the edges of a rectangle
pub record Outline : Type 0 where
  pub left : ℤ
  pub bottom : ℤ
  pub right : ℤ
  pub top : ℤ

-- The least rectangle round the two squares of this width that are centred at the ends of a segment, whose points are doubled.
abbrev pub segment_outline : ℕ → Segment → Outline
segment_outline width s = record {
  left = int_min s.start.x s.stop.x -ℤ pos width;
  bottom = int_min s.start.y s.stop.y -ℤ pos width;
  right = int_max s.start.x s.stop.x +ℤ pos width;
  top = int_max s.start.y s.stop.y +ℤ pos width;
}

-- the rectangles of a wire whose points are doubled, one for each segment
abbrev pub wire_outlines : ℕ → List Point → List Outline
wire_outlines width points = map (segment_outline width) (wire_segments points)

-- the box whose edges a function gives for those of an outline
abbrev pub outlined_box : Layer → (ℤ → ℤ) → Outline → BoxShape
outlined_box layer edge o =
    record { layer = layer; x1 = edge o.left; y1 = edge o.bottom; x2 = edge o.right; y2 = edge o.top }
