-- The nets of a tiling's tiles as nodes of a graph: four numbers for each tile, row by row from the north.
use Rattle.std.specs.Prelude.{ℕ, ◌+◌, ◌-◌, ◌*◌, ◌/◌, ◌%◌, ◌==◌, nat_lt, if◌then◌else◌, Bool, false, List, map, Option, Some, None, option_map}
use Rattle.std.specs.List.{list_any}
use Rattle.micro_tiles.specs.declared.side.Side.{Side}
use Rattle.micro_tiles.specs.declared.side.Side.TheVariants.{North, East, South, West}
use Rattle.micro_tiles.specs.Sides.{opposite}
use Rattle.micro_tiles.specs.Nets.{named_net}
use Rattle.stick_grid.specs.declared.place.Place.{Place}
use Rattle.stick_grid.specs.declared.piece_graph.Exit.{Exit}
use Rattle.stick_grid.specs.declared.piece_graph.TheConstants.{EXITS}
use Rattle.stick_grid.specs.Tilings.{Tiling, tile_at}

-- the place of the tile that has the number
abbrev pub place_of : Tiling → ℕ → Place
place_of tiling number = record { row = number / 4 / tiling.cols; col = number / 4 % tiling.cols }

-- the tile in a place
abbrev pub tile_in : Tiling → Place → ℕ
tile_in tiling place = tile_at tiling place.row place.col

-- the number of a net of the tile in a place
abbrev pub number_of : Tiling → Place → ℕ → ℕ
number_of tiling place net = 4 * (place.row * tiling.cols + place.col) + net

-- whether this is the net
abbrev pub is_net : ℕ → Option ℕ → Bool
is_net net None = false
is_net net (Some other) = other == net

-- whether the net of the number leads over the side in the layer
abbrev pub leads : Tiling → ℕ → Exit → Bool
leads tiling number exit = is_net (number % 4) (named_net (tile_in tiling (place_of tiling number)) exit.0 exit.1)

-- The numbers of nets that lead over a side are nodes.
abbrev pub is_node : Tiling → ℕ → Bool
is_node tiling number = list_any (leads tiling number) EXITS

-- the place beyond the side, if the tiling has it
abbrev pub beyond : Tiling → Place → Side → Option Place
beyond tiling place North = if place.row == 0 then None else Some (record { row = place.row - 1; col = place.col })
beyond tiling place East = if nat_lt (place.col + 1) tiling.cols then Some (record { row = place.row; col = place.col + 1 }) else None
beyond tiling place South = if nat_lt (place.row + 1) tiling.rows then Some (record { row = place.row + 1; col = place.col }) else None
beyond tiling place West = if place.col == 0 then None else Some (record { row = place.row; col = place.col - 1 })

-- the net that leads over the side of the tile in the place, by its number
abbrev pub net_from : Tiling → Option Place → Exit → Option ℕ
net_from tiling None exit = None
net_from tiling (Some place) exit = option_map (number_of tiling place) (named_net (tile_in tiling place) exit.0 exit.1)

-- the way back over the same border
abbrev pub way_back : Exit → Exit
way_back exit = record { 0 = opposite exit.0; 1 = exit.1 }

-- the net beyond the side, where the net of the number leads over it
abbrev pub link_over : Tiling → ℕ → Exit → Option ℕ
link_over tiling number exit = if leads tiling number exit then net_from tiling (beyond tiling (place_of tiling number) exit.0) (way_back exit) else None

abbrev pub links : Tiling → ℕ → List (Option ℕ)
links tiling number = map (link_over tiling number) EXITS
