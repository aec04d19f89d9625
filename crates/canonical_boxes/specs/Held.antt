-- Rectangles all of whose squares a set has.
use Rattle.std.specs.Prelude.{◌≡◌, ◌↔◌, ℕ, ℤ, ◌≤ℤ◌, ◌<ℤ◌, List, Bool, false, IsTrue, length, slice_index_or}
use Rattle.geom.specs.declared.point.Point.{Point}
use Rattle.geom.specs.Squares.{BoxShape}
use Rattle.geom.specs.Rows.{Over}
use Rattle.canonical_boxes.specs.declared.holding.Area.{Area}
use Rattle.canonical_boxes.specs.Canonical.{IsAt}

-- The square lies in the rectangle.
pub record InArea (a : Area) (x y : ℤ) : Type 0 where
  pub left : a.x1 ≤ℤ x
  pub right : x <ℤ a.x2
  pub bottom : a.y1 ≤ℤ y
  pub top : y <ℤ a.y2

-- The boxes cover all squares of the rectangle.
abbrev pub Holds : List BoxShape → Area → Type 0
Holds m a = (x y : ℤ) → InArea a x y → Over m x y

-- For each rectangle there is whether the boxes cover all of its squares.
pub record AreHeld (m : List BoxShape) (areas : List Area) (held : List Bool) : Type 0 where
  pub size : length held ≡ length areas
  pub each : (k : ℕ) (a : Area) → IsAt areas k a → IsTrue (slice_index_or held k false) ↔ Holds m a

-- the lower left square
abbrev pub corner : Area → Point
corner a = record { x = a.x1; y = a.y1 }

-- The box has the column.
pub record HasColumn (b : BoxShape) (x : ℤ) : Type 0 where
  pub left : b.x1 ≤ℤ x
  pub right : x <ℤ b.x2
