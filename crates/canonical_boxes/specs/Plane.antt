-- The squares that boxes can cover.
use Rattle.std.specs.Prelude.{◌≡◌, ◌↔◌, ℕ, ℤ, pos, neg_ℤ, ◌^◌, ◌≤ℤ◌, ◌<ℤ◌, List, Bool, false, IsTrue, if◌then◌else◌, int_lt, length, slice_index_or}
use Rattle.geom.specs.Squares.{BoxShape}
use Rattle.geom.specs.Rows.{Over}
use Rattle.canonical_boxes.specs.declared.holding.Area.{Area}
use Rattle.canonical_boxes.specs.Canonical.{IsAt}
use Rattle.canonical_boxes.specs.Held.{InArea}

-- The square is within 2^40 of the origin, as boxes are.
pub record InPlane (x y : ℤ) : Type 0 where
  pub left : neg_ℤ (pos (2 ^ 40)) ≤ℤ x
  pub right : x <ℤ pos (2 ^ 40)
  pub bottom : neg_ℤ (pos (2 ^ 40)) ≤ℤ y
  pub top : y <ℤ pos (2 ^ 40)

-- Of the squares of the rectangle the boxes cover all that boxes can cover.
abbrev pub HoldsInPlane : List BoxShape → Area → Type 0
HoldsInPlane m a = (x y : ℤ) → InArea a x y → InPlane x y → Over m x y

-- For each rectangle there is whether the boxes cover all of its squares that boxes can cover.
pub record AreHeldInPlane (m : List BoxShape) (areas : List Area) (held : List Bool) : Type 0 where
  pub size : length held ≡ length areas
  pub each : (k : ℕ) (a : Area) → IsAt areas k a → IsTrue (slice_index_or held k false) ↔ HoldsInPlane m a

-- the edge, or the edge of the plane where it lies beyond that
abbrev pub clamped : ℤ → ℤ
clamped e = if int_lt e (neg_ℤ (pos (2 ^ 40))) then neg_ℤ (pos (2 ^ 40)) else if int_lt (pos (2 ^ 40)) e then pos (2 ^ 40) else e

-- the part of the rectangle that lies in the plane
abbrev pub clipped : Area → Area
clipped a = record { x1 = clamped a.x1; y1 = clamped a.y1; x2 = clamped a.x2; y2 = clamped a.y2 }
