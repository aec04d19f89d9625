-- The tiles of the columns so far.
use Rattle.std.proofs.Common.{◌≡◌, ◌++◌, map}
use Rattle.std.specs.List.{range_with_len}
use Rattle.node_cell.specs.Made.{shape_plan}
use Rattle.node_cell.proofs.tiles.BlockTiles.add_row.Given as goal

abbrev pub invariant-loop-col : goal.invariant-loop-col
invariant-loop-col l = l.tiles.items ≡ l.fn.tiles.items ++ map ((shape_plan l.self).tile l.row) (range_with_len 0 l.col)
