-- The squares of a chip, and the least rectangle of whole tiles round a list of boxes.
use Rattle.std.specs.Prelude.{◌≡◌, ℤ, pos, ◌+ℤ◌, ◌-ℤ◌, ◌*ℤ◌, ◌≤ℤ◌, ◌<ℤ◌, List, [], ◌∷◌, ◌⊎◌, Some, slice_get}
use Rattle.geom.specs.declared.layer.Layer.{Layer}
use Rattle.geom.specs.declared.chip.Call.{Call}
use Rattle.geom.specs.declared.chip.Label.{Label}
use Rattle.geom.specs.declared.chip.Rect.{Rect}
use Rattle.geom.specs.Squares.{BoxShape, Covered}

-- kinds are lists of boxes; a call puts a kind, named by its number, at a place
pub record ChipShape : Type 0 where
  pub kinds : List (List BoxShape)
  pub calls : List Call
  pub labels : List Label

-- The call's kind covers the square (x, y) from the call's place.
pub record Calls (kinds : List (List BoxShape)) (call : Call) (layer : Layer) (x y : ℤ) : Type 0 where
  pub boxes : List BoxShape
  pub kind : slice_get kinds call.kind ≡ Some boxes
  pub covered : Covered boxes layer (x -ℤ call.x) (y -ℤ call.y)

-- Some call of the chip covers the square (x, y).
abbrev pub CalledAt : List (List BoxShape) → List Call → Layer → ℤ → ℤ → Type 0
CalledAt kinds [] layer x y = ⊥
CalledAt kinds (call ∷ calls) layer x y = Calls kinds call layer x y ⊎ CalledAt kinds calls layer x y

-- The square (x, y) belongs to the chip's drawing in this layer.
abbrev pub ChipCovers : ChipShape → Layer → ℤ → ℤ → Type 0
ChipCovers chip layer x y = CalledAt chip.kinds chip.calls layer x y

-- The square (x, y) lies in the rectangle.
pub record InRect (r : Rect) (x y : ℤ) : Type 0 where
  pub left : r.x ≤ℤ x
  pub right : x <ℤ (r.x +ℤ pos r.width)
  pub bottom : r.y ≤ℤ y
  pub top : y <ℤ (r.y +ℤ pos r.height)

-- a multiple of 14, the side of a tile in λ
pub record IsTileEdge (v : ℤ) : Type 0 where
  pub tiles : ℤ
  pub edge : v ≡ pos 14 *ℤ tiles

-- A rectangle with corners at multiples of 14 that contains every square of the boxes.
pub record HoldsInTiles (boxes : List BoxShape) (r : Rect) : Type 0 where
  pub left : IsTileEdge r.x
  pub right : IsTileEdge (r.x +ℤ pos r.width)
  pub bottom : IsTileEdge r.y
  pub top : IsTileEdge (r.y +ℤ pos r.height)
  pub holds : (layer : Layer) (x y : ℤ) → Covered boxes layer x y → InRect r x y

-- The box of a list of boxes: the least such rectangle.
pub record IsBoxOf (boxes : List BoxShape) (r : Rect) : Type 0 where
  pub holder : HoldsInTiles boxes r
  pub least : (other : Rect) → HoldsInTiles boxes other → (x y : ℤ) → InRect r x y → InRect other x y
