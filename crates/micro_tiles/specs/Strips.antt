-- What stands behind the sides of a tile.
use Rattle.std.specs.Prelude.{ℕ, ℤ, pos, ◌-ℤ◌, ◌≤ℤ◌, ◌<ℤ◌, ◌<◌, ◌↔◌, Bool, true, false, IsTrue, List}
use Rattle.geom.specs.declared.layer.Layer.{Layer}
use Rattle.geom.specs.declared.layer.Layer.TheVariants.{Diffusion, Poly, Metal, Cut, Implant}
use Rattle.geom.specs.Squares.{BoxShape, Covered}
use Rattle.micro_tiles.specs.declared.side.Side.{Side}
use Rattle.micro_tiles.specs.declared.side.Side.TheVariants.{North, East, South, West}
use Rattle.micro_tiles.specs.declared.side.Port.{Port}
use Rattle.micro_tiles.specs.Sides.{Carries}
use Rattle.micro_tiles.specs.Table.{tile_count, boxes, port_at}

-- The square at a depth behind a side, 0 at the border, and at a place along the side, from the west or from the south.
abbrev pub behind_x : Side → ℤ → ℤ → ℤ
behind_x North depth place = place
behind_x East depth place = pos 13 -ℤ depth
behind_x South depth place = place
behind_x West depth place = depth

abbrev pub behind_y : Side → ℤ → ℤ → ℤ
behind_y North depth place = pos 13 -ℤ depth
behind_y East depth place = place
behind_y South depth place = depth
behind_y West depth place = place

-- The layer covers that square.
abbrev pub Behind : List BoxShape → Layer → Side → ℤ → ℤ → Type 0
Behind boxes layer side depth place = Covered boxes layer (behind_x side depth place) (behind_y side depth place)

-- Less than 3 behind a side a layer has strips straight behind what it has at the border, and nothing else; that lies
-- between 5 and 9 and holds 6 and 7, where the port carries the layer, and is nothing where the port does not.
pub record IsStrip (boxes : List BoxShape) (port : Port) (side : Side) (layer : Layer) : Type 0 where
  pub straight : (depth place : ℤ) → pos 0 ≤ℤ depth → depth <ℤ pos 3 → Behind boxes layer side depth place ↔ Behind boxes layer side (pos 0) place
  pub carried : (place : ℤ) → Behind boxes layer side (pos 0) place → Carries port layer
  pub from : (place : ℤ) → Behind boxes layer side (pos 0) place → pos 5 ≤ℤ place
  pub to : (place : ℤ) → Behind boxes layer side (pos 0) place → place <ℤ pos 9
  pub sixth : Carries port layer → Behind boxes layer side (pos 0) (pos 6)
  pub seventh : Carries port layer → Behind boxes layer side (pos 0) (pos 7)

-- the layers that lead over borders
abbrev pub leads_out : Layer → Bool
leads_out Diffusion = true
leads_out Poly = true
leads_out Metal = true
leads_out Cut = false
leads_out Implant = false

-- Each side of each tile has strips.
abbrev pub TilesHaveStrips : Type 0
TilesHaveStrips = (tile : ℕ) (side : Side) (layer : Layer) → tile < tile_count → IsTrue (leads_out layer)
    → IsStrip (boxes tile) (port_at tile side) side layer

-- Other layers lead over no border.
abbrev pub PortsLeadOut : Type 0
PortsLeadOut = (tile : ℕ) (side : Side) (layer : Layer) → tile < tile_count → Carries (port_at tile side) layer → IsTrue (leads_out layer)
