-- How many boxes there are, and how far they reach.
use Rattle.std.specs.Prelude.{◌≡◌, ◌≢◌, ℕ, ◌+◌, ◌*◌, ◌^◌, min, Bool, ◌&&◌, ℤ, pos, neg_ℤ, int_lt, int_le, List, [], length, map, Option, Some, None}
use Rattle.std.specs.List.{list_all}
use Rattle.std.specs.Int.{int_min, int_max}
use Rattle.geom.specs.declared.layer.Layer.TheVariants.{Metal}
use Rattle.geom.specs.Squares.{BoxShape}
use Rattle.geom.specs.Rows.{Among}
use Rattle.cif_drawing.specs.declared.placement.Placement.{Placement}
use Rattle.cif_drawing.specs.declared.measure.Extent.{Extent}
use Rattle.cif_drawing.specs.declared.measure.Measure.{Measure}
use Rattle.cif_drawing.specs.Placements.{IsOrdered, placed, IsNear}

-- The edges are in order and within 2^40 of the origin.
abbrev pub is_side : ℤ → ℤ → Bool
is_side from to = int_le (neg_ℤ (pos (2 ^ 40))) from && int_lt from to && int_le to (pos (2 ^ 40))

abbrev pub is_box : BoxShape → Bool
is_box b = is_side b.x1 b.x2 && is_side b.y1 b.y2

-- the rectangle, in any layer
abbrev pub extent_box : Extent → BoxShape
extent_box e = record { layer = Metal; x1 = e.low.x; y1 = e.low.y; x2 = e.high.x; y2 = e.high.y }

-- The least rectangle round two.
pub record RoundBoth (e f r : Extent) : Type 0 where
  pub left : r.low.x ≡ int_min e.low.x f.low.x
  pub bottom : r.low.y ≡ int_min e.low.y f.low.y
  pub right : r.high.x ≡ int_max e.high.x f.high.x
  pub top : r.high.y ≡ int_max e.high.y f.high.y

-- The number of the boxes, or one more than the most that may be drawn; and a rectangle that stays within reach exactly where
-- all of them do, wherever they are placed.
pub record Measures (m : Measure) (boxes : List BoxShape) : Type 0 where
  pub count : m.count ≡ min (length boxes) 8000001
  pub here : is_box (extent_box m.extent) ≡ list_all is_box boxes
  pub anywhere : (p : Placement) → is_box (placed p (extent_box m.extent)) ≡ list_all is_box (map (placed p) boxes)
  pub order : IsOrdered (extent_box m.extent)
  pub ordered : (b : BoxShape) → Among boxes b → IsOrdered b

-- No edge is farther from the origin than so many calls move it.
pub record IsNearExtent (chain : ℕ) (e : Extent) : Type 0 where
  pub low : IsNear ((chain + 1) * 2 ^ 103) e.low
  pub high : IsNear ((chain + 1) * 2 ^ 103) e.high

-- It measures the boxes that so many calls, one within another, draw; none where there are none.
abbrev pub IsMeasure : ℕ → Option Measure → List BoxShape → Type 0
IsMeasure chain None boxes = boxes ≡ []
IsMeasure chain (Some m) boxes = (boxes ≢ []) × Measures m boxes × IsNearExtent chain m.extent
