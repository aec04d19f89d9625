-- Boxes of one set that share a stretch of a horizontal edge.
use Rattle.std.specs.Prelude.{◌≡◌, ◌↔◌, ℕ, ◌<ℤ◌, List, ◌⊎◌}
use Rattle.geom.specs.Squares.{BoxShape}
use Rattle.geom.specs.Rows.{Among}
use Rattle.canonical_boxes.specs.declared.touching.Touch.{Touch}
use Rattle.canonical_boxes.specs.Canonical.{IsAt}

-- One box begins in the row in which the other ends, and they have a column in common.
pub record StandsOn (upper lower : BoxShape) : Type 0 where
  pub edge : lower.y2 ≡ upper.y1
  pub left : lower.x1 <ℤ upper.x2
  pub right : upper.x1 <ℤ lower.x2

-- The boxes of these two numbers touch.
pub record IsTouch (m : List BoxShape) (t : Touch) : Type 0 where
  pub under : BoxShape
  pub over : BoxShape
  pub lower : IsAt m t.lower under
  pub upper : IsAt m t.upper over
  pub stands : StandsOn over under

-- the pairs are all the touches of these boxes
abbrev pub AreTouches : List BoxShape → List Touch → Type 0
AreTouches m found = (t : Touch) → Among found t ↔ IsTouch m t

-- added are all the touches in which this box is the lower one
abbrev pub AddsTouches : List BoxShape → ℕ → List Touch → List Touch → Type 0
AddsTouches m lower before after = (t : Touch) → Among after t ↔ (Among before t ⊎ ((t.lower ≡ lower) × IsTouch m t))
