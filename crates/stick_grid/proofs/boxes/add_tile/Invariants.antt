-- The boxes so far are added.
use Rattle.std.proofs.Common.{◌≡◌, ◌++◌, map, take}
use Rattle.micro_tiles.specs.Table.{boxes}
use Rattle.stick_grid.specs.PlanBoxes.{tile_box}
use Rattle.stick_grid.proofs.boxes.add_tile.Given as goal

abbrev pub invariant-loop-index : goal.invariant-loop-index
invariant-loop-index l = l.drawn.items ≡ l.fn.drawn.items ++ map (tile_box l.east l.north) (take l.index (boxes l.tile))
