-- Wires whose segments lie along the axes.
use Rattle.std.specs.Prelude.{◌≡◌, ◌≢◌, ◌^◌, true, ℤ, pos, neg_ℤ, ◌-ℤ◌, ◌*ℤ◌, ◌≤ℤ◌, List, [], map}
use Rattle.std.specs.Int.RustNames.{unsigned_abs}
use Rattle.std.specs.List.{list_all}
use Rattle.geom.specs.declared.layer.Layer.{Layer}
use Rattle.geom.specs.declared.point.Point.{Point}
use Rattle.geom.specs.Squares.{BoxShape}
use Rattle.geom.specs.Rows.{Among}
use Rattle.geom.specs.CifShapes.{Outline, wire_segments, is_axis_segment, wire_outlines}

-- Both numbers are odd, or both are even.
abbrev pub AreAlike : ℤ → ℤ → Type 0
AreAlike a b = (half : ℤ) × (a -ℤ b ≡ pos 2 *ℤ half)

-- Twice an edge that is within 2^40 of the origin.
pub record IsTwiceReachable (twice : ℤ) : Type 0 where
  pub from : neg_ℤ (pos (2 ^ 41)) ≤ℤ twice
  pub to : twice ≤ℤ pos (2 ^ 41)

-- All four edges are such.
pub record IsNear (o : Outline) : Type 0 where
  pub left : IsTwiceReachable o.left
  pub bottom : IsTwiceReachable o.bottom
  pub right : IsTwiceReachable o.right
  pub top : IsTwiceReachable o.top

-- The width is in λ, and the points in half λ: coordinates are odd exactly where the width is. There is a point, segments lie
-- along the axes, and all edges are within 2^40 of the origin.
pub record IsWire (width : ℤ) (points : List Point) : Type 0 where
  pub wide : pos 1 ≤ℤ width
  pub some : points ≢ []
  pub across : (p : Point) → Among points p → AreAlike p.x width
  pub upward : (p : Point) → Among points p → AreAlike p.y width
  pub along : list_all is_axis_segment (wire_segments points) ≡ true
  pub near : (o : Outline) → Among (wire_outlines (unsigned_abs width) points) o → IsNear o

-- twice the edges of a box
abbrev pub doubled_edges : BoxShape → Outline
doubled_edges b = record { left = pos 2 *ℤ b.x1; bottom = pos 2 *ℤ b.y1; right = pos 2 *ℤ b.x2; top = pos 2 *ℤ b.y2 }

-- The boxes of a wire, one for each segment.
pub record AreWireBoxes (layer : Layer) (width : ℤ) (points : List Point) (boxes : List BoxShape) : Type 0 where
  pub layers : (b : BoxShape) → Among boxes b → b.layer ≡ layer
  pub edges : map doubled_edges boxes ≡ wire_outlines (unsigned_abs width) points
