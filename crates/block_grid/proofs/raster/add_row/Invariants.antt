-- The columns so far.
use Rattle.std.proofs.Common.{◌≡◌, ◌++◌, map}
use Rattle.std.specs.List.{range_with_len}
use Rattle.block_grid.specs.Raster.{wire_at}
use Rattle.block_grid.proofs.raster.add_row.Given as goal

abbrev pub invariant-loop-col : goal.invariant-loop-col
invariant-loop-col l = l.kinds.items ≡ l.fn.kinds.items ++ map (wire_at l.norths l.wests l.rows l.cols l.row) (range_with_len 0 l.col)
