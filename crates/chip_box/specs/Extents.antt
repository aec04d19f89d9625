-- The edges of the least rectangle round boxes.
use Rattle.std.specs.Prelude.{◌≡◌, ◌≢◌, ◌^◌, ◌<◌, ℕ, ℤ, pos, neg_ℤ, ◌+ℤ◌, ◌-ℤ◌, ◌≤ℤ◌, ◌<ℤ◌, Option, Some, None, List, []}
use Rattle.geom.specs.declared.chip.Call.{Call}
use Rattle.geom.specs.Squares.{BoxShape}
use Rattle.geom.specs.Rows.{Among}
use Rattle.geom.specs.declared.chip.Rect.{Rect}
use Rattle.geom.specs.Chips.{IsTileEdge, IsBoxOf}
use Rattle.chip_box.specs.declared.extent.Extent.{Extent}

-- a distance of at most 2^41 or 2^42 from the origin
abbrev pub IsNear : ℤ → Type 0
IsNear v = (neg_ℤ (pos (2 ^ 41)) ≤ℤ v) × (v ≤ℤ pos (2 ^ 41))

abbrev pub IsReached : ℤ → Type 0
IsReached v = (neg_ℤ (pos (2 ^ 42)) ≤ℤ v) × (v ≤ℤ pos (2 ^ 42))

-- a number that can be taken from another one
abbrev pub IsNumber : ℤ → Type 0
IsNumber v = (neg_ℤ (pos (2 ^ 50)) ≤ℤ v) × (v ≤ℤ pos (2 ^ 50))

-- The call's kind is one of so many, and it stands near enough to be measured.
pub record IsMeasured (kinds : ℕ) (call : Call) : Type 0 where
  pub kind : call.kind < kinds
  pub x : IsNear call.x
  pub y : IsNear call.y

-- The box has squares.
abbrev pub IsOrdered : BoxShape → Type 0
IsOrdered b = (b.x1 <ℤ b.x2) × (b.y1 <ℤ b.y2)

-- one of the boxes, by one of its edges
abbrev pub Reaches : (BoxShape → ℤ) → List BoxShape → ℤ → Type 0
Reaches edge boxes v = (b : BoxShape) × Among boxes b × IsOrdered b × (edge b ≡ v)

-- The edges are those of some of the boxes, and none reaches beyond them.
pub record Surrounds (boxes : List BoxShape) (e : Extent) : Type 0 where
  pub west : (b : BoxShape) → Among boxes b → e.west ≤ℤ b.x1
  pub south : (b : BoxShape) → Among boxes b → e.south ≤ℤ b.y1
  pub east : (b : BoxShape) → Among boxes b → b.x2 ≤ℤ e.east
  pub north : (b : BoxShape) → Among boxes b → b.y2 ≤ℤ e.north
  pub westernmost : Reaches (λ b. b.x1) boxes e.west
  pub southernmost : Reaches (λ b. b.y1) boxes e.south
  pub easternmost : Reaches (λ b. b.x2) boxes e.east
  pub northernmost : Reaches (λ b. b.y2) boxes e.north

-- its edges are within reach
pub record IsWithinReach (e : Extent) : Type 0 where
  pub west : IsReached e.west
  pub south : IsReached e.south
  pub east : IsReached e.east
  pub north : IsReached e.north

-- These are the edges of the boxes, within reach.
pub record Measures (boxes : List BoxShape) (e : Extent) : Type 0 where
  pub surrounds : Surrounds boxes e
  pub within : IsWithinReach e

abbrev pub IsExtent : List BoxShape → Option Extent → Type 0
IsExtent boxes None = boxes ≡ []
IsExtent boxes (Some e) = Measures boxes e

-- the last multiple of 14 that is not behind a number, and the first one that is not before it
pub record IsEdgeBefore (v edge : ℤ) : Type 0 where
  pub tiles : IsTileEdge edge
  pub low : edge ≤ℤ v
  pub high : v <ℤ (edge +ℤ pos 14)

pub record IsEdgeBehind (v edge : ℤ) : Type 0 where
  pub tiles : IsTileEdge edge
  pub low : (edge -ℤ pos 14) <ℤ v
  pub high : v ≤ℤ edge

-- There is a box of boxes with squares.
abbrev pub RectanglesExist : Type 0
RectanglesExist = (boxes : List BoxShape) → boxes ≢ [] → ((b : BoxShape) → Among boxes b → IsOrdered b) → (box : Rect) × IsBoxOf boxes box
