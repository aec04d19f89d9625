-- The points of wires, and the edges between them.
use Rattle.std.specs.Prelude.{◌≡◌, ℕ, ◌^◌, Bool, ◌≤◌, ℤ, pos, ◌+ℤ◌, ◌-ℤ◌, ◌*ℤ◌, List, [], ◌∷◌, length, map, flat_map, not, Option, Some, None}
use Rattle.std.specs.List.{list_all}
use Rattle.std.specs.Int.{int_min, int_max}
use Rattle.std.specs.Int.RustNames.{unsigned_abs}
use Rattle.geom.specs.declared.point.Point.{Point}
use Rattle.geom.specs.CifCommands.{CifPart, Signed, CifScale, point_parts}
use Rattle.geom.specs.CifCodes.{SomeIs, IsTooGreat, part_numbers, outline_distances}
use Rattle.geom.specs.CifShapes.{Outline, segment_outline, is_axis_segment}
use Rattle.geom.specs.CifDrawings.{doubled}
use Rattle.cif_values.specs.Parts.{PartsAt}
use Rattle.cif_values.specs.Numbers.{AreAlike, StandsFor}
use Rattle.cif_values.specs.Values.{IsNearNumber}
use Rattle.cif_codes.specs.declared.bends.Coordinate.{Coordinate}
use Rattle.cif_codes.specs.declared.bends.Bend.{Bend}
use Rattle.cif_codes.specs.declared.edges.Edges.{Edges}
use Rattle.cif_codes.specs.declared.wires.Bends.{Bends}
use Rattle.cif_codes.specs.Checks.{Checked}
use Rattle.cif_codes.specs.Corners.{open_sides, last_point}

-- The number stands at its place in the text, and this one stands for it.
pub record NumberAt (text : List ℕ) (divisor : ℕ) (z : ℤ) (c : Coordinate) : Type 0 where
  pub stop : ℕ
  pub behind : List CifPart
  pub parts : PartsAt text c.at stop (Signed z ∷ behind)
  pub stands : StandsFor divisor z c.value

-- Both coordinates are such.
abbrev pub BendAt : List ℕ → ℕ → Point → Bend → Type 0
BendAt text divisor p bend = NumberAt text divisor p.x bend.x × NumberAt text divisor p.y bend.y

-- The number is one that stands for others, and its place is in the text.
abbrev pub IsNearCoordinate : List ℕ → Coordinate → Type 0
IsNearCoordinate text c = IsNearNumber c.value × (c.at ≤ length text)

abbrev pub IsNearBend : List ℕ → Bend → Type 0
IsNearBend text bend = IsNearCoordinate text bend.x × IsNearCoordinate text bend.y

abbrev pub IsNearLast : List ℕ → Option Bend → Type 0
IsNearLast text None = Unit {0}
IsNearLast text (Some bend) = IsNearBend text bend

-- These stand for twice the edges round two squares of this width, in one direction.
pub record SpanStands (divisor w : ℕ) (a b : ℤ) (low high : ℤ) : Type 0 where
  pub low_alike : AreAlike divisor (int_min (pos 2 *ℤ a) (pos 2 *ℤ b) -ℤ pos w) low
  pub high_alike : AreAlike divisor (int_max (pos 2 *ℤ a) (pos 2 *ℤ b) +ℤ pos w) high
  pub exact : (IsTooGreat (pos w) → ⊥) → (IsTooGreat a → ⊥) → (IsTooGreat b → ⊥)
      → (low ≡ int_min (pos 2 *ℤ a) (pos 2 *ℤ b) -ℤ pos w) × (high ≡ int_max (pos 2 *ℤ a) (pos 2 *ℤ b) +ℤ pos w)

-- These stand for twice the edges of a rectangle, and are the same where no number is too great.
pub record EdgesStand (divisor : ℕ) (numbers : List ℤ) (o : Outline) (edges : Edges) : Type 0 where
  pub left : AreAlike divisor o.left edges.left
  pub bottom : AreAlike divisor o.bottom edges.bottom
  pub right : AreAlike divisor o.right edges.right
  pub top : AreAlike divisor o.top edges.top
  pub exact : (SomeIs IsTooGreat numbers → ⊥)
      → (edges.left ≡ o.left) × (edges.bottom ≡ o.bottom) × (edges.right ≡ o.right) × (edges.top ≡ o.top)

-- None is far from 0.
pub record AreNearEdges (edges : Edges) : Type 0 where
  pub left : unsigned_abs edges.left ≤ 2 ^ 55
  pub bottom : unsigned_abs edges.bottom ≤ 2 ^ 55
  pub right : unsigned_abs edges.right ≤ 2 ^ 55
  pub top : unsigned_abs edges.top ≤ 2 ^ 55

-- the numbers of a wire of these points
abbrev pub wire_numbers : ℕ → List Point → List ℤ
wire_numbers w points = pos w ∷ flat_map part_numbers (flat_map point_parts points)

-- twice the edges between points, from each to the next
abbrev pub between_points : ℕ → List Point → List ℤ
between_points w points = flat_map outline_distances (map (segment_outline w) (open_sides (map doubled points)))

-- This is the last of the points.
abbrev pub IsLast : List ℕ → ℕ → List Point → Option Bend → Type 0
IsLast text divisor [] None = Unit {0}
IsLast text divisor (p ∷ ps) (Some bend) = BendAt text divisor (last_point p ps) bend
IsLast text divisor points bend = ⊥

-- Unless a number is too great, the flag tells that a segment lies along no axis.
abbrev pub IsOblique : ℕ → List Point → Bool → Type 0
IsOblique w points oblique = (SomeIs IsTooGreat (wire_numbers w points) → ⊥) → oblique ≡ not (list_all is_axis_segment (open_sides points))

-- What was found of the first points of a wire.
pub record BendsChecked (text : List ℕ) (divisor : ℕ) (scale : CifScale) (w : ℕ) (points : List Point) (bends : Bends) : Type 0 where
  pub checked : Checked scale (wire_numbers w points) (between_points w points) bends.checks
  pub count : bends.count ≡ length points
  pub last : IsLast text divisor points bends.last
  pub oblique : IsOblique w points bends.oblique
