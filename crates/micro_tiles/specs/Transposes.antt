-- The transpose of a tile is its mirror image over the diagonal from north-west to south-east.
use Rattle.std.specs.Prelude.{◌≡◌, ◌↔◌, ℕ, ◌<◌, ℤ, pos, ◌-ℤ◌, map}
use Rattle.geom.specs.declared.layer.Layer.{Layer}
use Rattle.geom.specs.Squares.{Covered}
use Rattle.micro_tiles.specs.declared.side.Side.{Side}
use Rattle.micro_tiles.specs.Sides.{mirrored_side}
use Rattle.micro_tiles.specs.Designs.{side_net}
use Rattle.micro_tiles.specs.Boxes.{mirrored_box}
use Rattle.micro_tiles.specs.Table.{tile_count, transpose_of, design_of, boxes, port_at, transistor_at}

-- The transpose has the boxes, squares, ports, nets and transistor of the tile, each where the mirror takes it.
pub record IsMirrored (tile : ℕ) : Type 0 where
  pub back : transpose_of (transpose_of tile) ≡ tile
  pub drawn : boxes (transpose_of tile) ≡ map mirrored_box (boxes tile)
  pub squares : (layer : Layer) (x y : ℤ) → Covered (boxes tile) layer x y ↔ Covered (boxes (transpose_of tile)) layer (pos 13 -ℤ y) (pos 13 -ℤ x)
  pub port : (side : Side) → port_at (transpose_of tile) (mirrored_side side) ≡ port_at tile side
  pub net : (side : Side) (layer : Layer) → side_net (design_of (transpose_of tile)) (mirrored_side side) layer ≡ side_net (design_of tile) side layer
  pub transistor : transistor_at (transpose_of tile) ≡ transistor_at tile

abbrev pub TransposesAreMirrored : Type 0
TransposesAreMirrored = (tile : ℕ) → tile < tile_count → IsMirrored tile
