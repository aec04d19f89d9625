-- The points of polygons, one after another.
use Rattle.std.specs.Prelude.{◌≡◌, ℕ, not, List, [], ◌∷◌, length, Option, Some, None, flat_map}
use Rattle.std.specs.List.{list_all}
use Rattle.geom.specs.declared.point.Point.{Point}
use Rattle.geom.specs.CifCommands.{CifScale, point_parts}
use Rattle.geom.specs.CifCodes.{part_numbers, point_distances}
use Rattle.geom.specs.CifShapes.{Segment, segments_from, is_axis_side}
use Rattle.cif_values.specs.Values.{PointStands}
use Rattle.cif_codes.specs.declared.points.Corners.{Corners}
use Rattle.cif_codes.specs.declared.points.Ends.{Ends}
use Rattle.cif_codes.specs.Checks.{Checked}

-- The points stand for those of the first list, one by one.
abbrev pub PointsStand : ℕ → List Point → List Point → Type 0
PointsStand divisor [] [] = Unit {0}
PointsStand divisor (p ∷ ps) (q ∷ qs) = PointStands divisor p q × PointsStand divisor ps qs
PointsStand divisor ps qs = ⊥

-- the ways from a point to the next
abbrev pub open_sides : List Point → List Segment
open_sides [] = []
open_sides (p ∷ ps) = segments_from p ps

-- the last of the points
abbrev pub last_point : Point → List Point → Point
last_point p [] = p
last_point p (q ∷ qs) = last_point q qs

-- These are the first and the last of the points.
abbrev pub AreEnds : List Point → Option Ends → Type 0
AreEnds [] None = Unit {0}
AreEnds (p ∷ ps) (Some ends) = (ends.first ≡ p) × (ends.last ≡ last_point p ps)
AreEnds ps ends = ⊥

-- What was found of points that stand for those of a polygon.
pub record AreCorners (points : List Point) (corners : Corners) : Type 0 where
  pub count : corners.count ≡ length points
  pub ends : AreEnds points corners.ends
  pub oblique : corners.oblique ≡ not (list_all is_axis_side (open_sides points))

-- What is wrong with the points of a polygon, by points that stand for them.
pub record CornersChecked (divisor : ℕ) (scale : CifScale) (points : List Point) (corners : Corners) : Type 0 where
  pub standing : List Point
  pub stand : PointsStand divisor points standing
  pub found : AreCorners standing corners
  pub checked : Checked scale (flat_map part_numbers (flat_map point_parts points)) (flat_map point_distances points) corners.checks
