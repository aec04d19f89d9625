-- The numbers of a tile's nets, at its squares.
use Rattle.std.specs.Prelude.{◌≡◌, ◌↔◌, ℕ, ◌<◌, ℤ, pos, int_le, int_lt, Bool, true, false, Option, Some, None, if◌then◌else◌}
use Rattle.geom.specs.Squares.{Covered}
use Rattle.geom.specs.declared.layer.Layer.{Layer}
use Rattle.geom.specs.declared.layer.Layer.TheVariants.{Poly, Metal}
use Rattle.micro_tiles.specs.declared.side.Side.{Side}
use Rattle.micro_tiles.specs.Sides.{Carries, carries}
use Rattle.micro_tiles.specs.Designs.{has_cut, side_net}
use Rattle.geom.specs.Conduction.{Spot, Conducts, Joined}
use Rattle.micro_tiles.specs.Strips.{behind_x, behind_y}
use Rattle.micro_tiles.specs.Table.{tile_count, is_transpose, design_of, boxes, port_at}

-- the number of the net that the side of the tile has in the layer, if it carries the layer
abbrev pub named_net : ℕ → Side → Layer → Option ℕ
named_net tile side layer = if carries (port_at tile side) layer then Some (side_net (design_of tile) side layer) else None

-- The square lies in the half of the tile that has the first terminal: the north, or the west of a transpose.
abbrev pub in_first_half : Bool → ℤ → ℤ → Bool
in_first_half false x y = int_le (pos 7) y
in_first_half true x y = int_lt x (pos 7)

-- the number of the net of a layer, where no layers meet under a cut
abbrev pub layer_net : Bool → Layer → ℤ → ℤ → ℕ
layer_net transpose Metal x y = 0
layer_net transpose Poly x y = 1
layer_net transpose layer x y = if in_first_half transpose x y then 2 else 3

-- the number of the net of a conducting square
abbrev pub square_net : ℕ → Layer → ℤ → ℤ → ℕ
square_net tile layer x y = if has_cut (design_of tile) then 0 else layer_net (is_transpose tile) layer x y

-- Two conducting squares of a tile have one number exactly where conducting squares of the tile join them.
abbrev pub NumbersAreNets : Type 0
NumbersAreNets = (tile : ℕ) (a b : Spot) → tile < tile_count → Conducts (Covered (boxes tile)) a.layer a.x a.y → Conducts (Covered (boxes tile)) b.layer b.x b.y
    → (square_net tile a.layer a.x a.y ≡ square_net tile b.layer b.x b.y) ↔ Joined (Covered (boxes tile)) a b

-- What a port carries conducts at the border, and the number at the side is that of its net.
pub record NamesItsNet (tile : ℕ) (side : Side) (layer : Layer) : Type 0 where
  pub conducts : Conducts (Covered (boxes tile)) layer (behind_x side (pos 0) (pos 6)) (behind_y side (pos 0) (pos 6))
  pub number : side_net (design_of tile) side layer ≡ square_net tile layer (behind_x side (pos 0) (pos 6)) (behind_y side (pos 0) (pos 6))

abbrev pub PortsNameNets : Type 0
PortsNameNets = (tile : ℕ) (side : Side) (layer : Layer) → tile < tile_count → Carries (port_at tile side) layer → NamesItsNet tile side layer

-- A side carries the layer, on the net that the square has in it.
pub record ReachesSide (tile : ℕ) (layer : Layer) (x y : ℤ) : Type 0 where
  pub side : Side
  pub carried : Carries (port_at tile side) layer
  pub number : side_net (design_of tile) side layer ≡ square_net tile layer x y

-- Every net of a tile reaches a side, in each layer that it has.
abbrev pub NetsReachSides : Type 0
NetsReachSides = (tile : ℕ) (layer : Layer) (x y : ℤ) → tile < tile_count → Conducts (Covered (boxes tile)) layer x y → ReachesSide tile layer x y
