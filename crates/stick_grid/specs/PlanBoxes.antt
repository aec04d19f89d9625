-- The boxes of a plan: those of each tile in order, tile by tile, row by row.
use Rattle.std.specs.Prelude.{ℕ, ◌-◌, ◌*◌, pos, ◌+ℤ◌, List, map, flat_map}
use Rattle.std.specs.List.{range_with_len}
use Rattle.geom.specs.Squares.{BoxShape}
use Rattle.micro_tiles.specs.Table.{boxes}
use Rattle.stick_grid.specs.Plans.{Plan}

-- a box of a tile that lies so many tiles to the east and to the north of the origin
abbrev pub tile_box : ℕ → ℕ → BoxShape → BoxShape
tile_box east north b = record {
  layer = b.layer;
  x1 = b.x1 +ℤ pos (14 * east);
  y1 = b.y1 +ℤ pos (14 * north);
  x2 = b.x2 +ℤ pos (14 * east);
  y2 = b.y2 +ℤ pos (14 * north);
}

-- the boxes of the tile in a row and column
abbrev pub boxes_in : Plan → ℕ → ℕ → List BoxShape
boxes_in plan row col = map (tile_box col (plan.rows - 1 - row)) (boxes (plan.tile row col))

-- the boxes of the tiles of a row, from the west
abbrev pub boxes_in_row : Plan → ℕ → List BoxShape
boxes_in_row plan row = flat_map (boxes_in plan row) (range_with_len 0 plan.cols)

-- the boxes of all tiles, row by row from the north
abbrev pub boxes_of_plan : Plan → List BoxShape
boxes_of_plan plan = flat_map (boxes_in_row plan) (range_with_len 0 plan.rows)
