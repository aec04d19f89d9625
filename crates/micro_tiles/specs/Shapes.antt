-- The shapes that a tile has in each layer.
use Rattle.std.specs.Prelude.{◌≡◌, ℕ, ℤ, pos, ◌-ℤ◌, ◌≤ℤ◌, ◌<ℤ◌, ◌<◌, ◌↔◌, ◌⊎◌, Some, None, List}
use Rattle.geom.specs.declared.layer.Layer.{Layer}
use Rattle.geom.specs.declared.layer.Layer.TheVariants.{Diffusion, Poly, Metal, Cut, Implant}
use Rattle.geom.specs.Squares.{BoxShape, Inside, Covered}
use Rattle.geom.specs.Rows.{Among}
use Rattle.micro_tiles.specs.declared.device.Transistor.{Transistor}
use Rattle.micro_tiles.specs.Boxes.{box, cut, IsInTile}
use Rattle.geom.specs.Conduction.{IsOneClass, IsChannel}
use Rattle.micro_tiles.specs.Table.{tile_count, boxes, transistor_at}

-- the least side of a box of the layer
abbrev pub least_side : Layer → ℤ
least_side Metal = pos 4
least_side layer = pos 2

-- The box lies in the tile, and is as wide and as high as its layer asks.
pub record IsWide (b : BoxShape) : Type 0 where
  pub within : IsInTile b
  pub width : least_side b.layer ≤ℤ (b.x2 -ℤ b.x1)
  pub height : least_side b.layer ≤ℤ (b.y2 -ℤ b.y1)

abbrev pub TilesHaveWideBoxes : Type 0
TilesHaveWideBoxes = (tile : ℕ) (b : BoxShape) → tile < tile_count → Among (boxes tile) b → IsWide b

-- the squares of a contact: those of its cut, and one more on each side
abbrev pub contact : BoxShape
contact = box Metal 5 5 9 9

-- All cut squares are those of one cut, in the middle of the tile, under metal and on poly or on diffusion that both
-- reach one square beyond it.
pub record IsContact (boxes : List BoxShape) : Type 0 where
  pub squares : (x y : ℤ) → Covered boxes Cut x y ↔ Inside cut x y
  pub metal : (x y : ℤ) → Inside contact x y → Covered boxes Metal x y
  pub other : ((x y : ℤ) → Inside contact x y → Covered boxes Poly x y) ⊎ ((x y : ℤ) → Inside contact x y → Covered boxes Diffusion x y)

-- A tile with a cut square is a contact, and has no transistor.
abbrev pub CutsAreContacts : Type 0
CutsAreContacts = (tile : ℕ) (x y : ℤ) → tile < tile_count → Covered (boxes tile) Cut x y
    → IsContact (boxes tile) × (transistor_at tile ≡ None)

-- The square is at least so far from each border.
pub record IsInner (margin x y : ℤ) : Type 0 where
  pub left : margin ≤ℤ x
  pub right : x <ℤ (pos 14 -ℤ margin)
  pub bottom : margin ≤ℤ y
  pub top : y <ℤ (pos 14 -ℤ margin)

-- All squares lie in the tile, cuts and channels at least 3 from its border, implant at least 1.
pub record KeepsInside (boxes : List BoxShape) : Type 0 where
  pub all : (layer : Layer) (x y : ℤ) → Covered boxes layer x y → IsInner (pos 0) x y
  pub cut : (x y : ℤ) → Covered boxes Cut x y → IsInner (pos 3) x y
  pub channel : (x y : ℤ) → IsChannel (Covered boxes) x y → IsInner (pos 3) x y
  pub implant : (x y : ℤ) → Covered boxes Implant x y → IsInner (pos 1) x y

abbrev pub TilesKeepInside : Type 0
TilesKeepInside = (tile : ℕ) → tile < tile_count → KeepsInside (boxes tile)

-- In each layer, and in its channel, the tile has one shape at most.
pub record HasOneShape (boxes : List BoxShape) : Type 0 where
  pub layer : (layer : Layer) → IsOneClass (Covered boxes layer)
  pub channel : IsOneClass (IsChannel (Covered boxes))

abbrev pub TilesHaveOneShape : Type 0
TilesHaveOneShape = (tile : ℕ) → tile < tile_count → HasOneShape (boxes tile)

-- A tile with poly and diffusion has a transistor.
abbrev pub PolyAvoidsDiffusion : Type 0
PolyAvoidsDiffusion = (tile : ℕ) (x y u v : ℤ) → tile < tile_count → Covered (boxes tile) Poly x y → Covered (boxes tile) Diffusion u v
    → (transistor : Transistor) × (transistor_at tile ≡ Some transistor)
