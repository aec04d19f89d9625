-- The 55 tiles by their numbers. The 28 basic tiles come first; from the first of them on, each has its transpose behind them.
use Rattle.std.specs.Prelude.{ℕ, ◌+◌, ◌-◌, Bool, ◌==◌, nat_le, if◌then◌else◌, List, map, Option, slice_index_or}
use Rattle.geom.specs.Squares.{BoxShape}
use Rattle.micro_tiles.specs.declared.design.Design.{Design}
use Rattle.micro_tiles.specs.declared.design.Design.TheVariants.{Empty}
use Rattle.micro_tiles.specs.declared.side.Side.{Side}
use Rattle.micro_tiles.specs.declared.side.Port.{Port}
use Rattle.micro_tiles.specs.declared.device.Transistor.{Transistor}
use Rattle.micro_tiles.specs.Basics.{basic_designs}
use Rattle.micro_tiles.specs.Sides.{mirrored_side}
use Rattle.micro_tiles.specs.Designs.{port_of, transistor_of}
use Rattle.micro_tiles.specs.Boxes.{boxes_of, mirrored_box}

abbrev pub tile_count : ℕ
tile_count = 55

-- the tile is the transpose of a basic one
abbrev pub is_transpose : ℕ → Bool
is_transpose tile = nat_le 28 tile

-- the number of the transpose; the empty tile is its own
abbrev pub transpose_of : ℕ → ℕ
transpose_of tile = if tile == 0 then 0 else if is_transpose tile then tile - 27 else tile + 27

-- the number of the basic tile that it is, or is the transpose of
abbrev pub basic_of : ℕ → ℕ
basic_of tile = if is_transpose tile then tile - 27 else tile

-- the design of that basic tile
unfoldable pub design_of : ℕ → Design
design_of tile = slice_index_or basic_designs (basic_of tile) Empty

-- the boxes of the tile, in order
unfoldable pub boxes : ℕ → List BoxShape
boxes tile = if is_transpose tile then map mirrored_box (boxes_of (design_of tile)) else boxes_of (design_of tile)

-- what the tile has at the side
abbrev pub port_at : ℕ → Side → Port
port_at tile side = if is_transpose tile then port_of (design_of tile) (mirrored_side side) else port_of (design_of tile) side

-- the transistor of the tile
abbrev pub transistor_at : ℕ → Option Transistor
transistor_at tile = transistor_of (design_of tile)
