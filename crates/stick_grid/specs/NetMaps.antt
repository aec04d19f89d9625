-- The net of each conducting square of a tiling, looked up in the classes of the nets of its tiles.
use Rattle.std.specs.Prelude.{ℕ, ◌-◌, ◌*◌, ◌/◌, nat_lt, if◌then◌else◌, ℤ, pos, negsuc, ◌-ℤ◌, length, Option, Some, None}
use Rattle.geom.specs.declared.layer.Layer.{Layer}
use Rattle.micro_tiles.specs.Conducting.{conducts}
use Rattle.micro_tiles.specs.Nets.{square_net}
use Rattle.nmos_model.specs.Classes.{Classing, class_at}
use Rattle.stick_grid.specs.declared.place.Place.{Place}
use Rattle.stick_grid.specs.Tilings.{Tiling}
use Rattle.stick_grid.specs.PieceGraph.{number_of, tile_in}

-- a tiling and the classes of the nets of its tiles
pub record NetMap : Type 0 where
  pub tiling : Tiling
  pub classes : Classing

-- the tile over a coordinate, of so many in a line from the origin
abbrev pub tile_over : ℕ → ℤ → Option ℕ
tile_over count (pos n) = if nat_lt (n / 14) count then Some (n / 14) else None
tile_over count (negsuc n) = None

-- the class of the square (x, y) of the tile in the place, if it conducts
abbrev pub class_in : NetMap → Place → Layer → ℤ → ℤ → Option ℕ
class_in map place layer x y =
    if conducts (tile_in map.tiling place) layer x y
    then class_at map.classes.numbers (number_of map.tiling place (square_net (tile_in map.tiling place) layer x y))
    else None

-- the class of a square in a tile of a column and a row, of which so many lie south of it
abbrev pub class_of : NetMap → Option ℕ → Option ℕ → Layer → ℤ → ℤ → Option ℕ
class_of map (Some col) (Some south) layer x y =
    class_in map (record { row = map.tiling.rows - 1 - south; col = col }) layer (x -ℤ pos (14 * col)) (y -ℤ pos (14 * south))
class_of map (Some col) None layer x y = None
class_of map None south layer x y = None

-- the net of a square in a layer
abbrev pub net_of : NetMap → Layer → ℤ → ℤ → Option ℕ
net_of map layer x y = class_of map (tile_over map.tiling.cols x) (tile_over map.tiling.rows y) layer x y

-- how many nets there are
abbrev pub net_count : NetMap → ℕ
net_count map = length map.classes.firsts
