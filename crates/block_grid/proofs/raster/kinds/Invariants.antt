-- The wire blocks of the rows so far.
use Rattle.std.proofs.Common.{◌≡◌, map}
use Rattle.std.specs.Prelude.{flat_map}
use Rattle.std.specs.List.{range_with_len}
use Rattle.block_grid.specs.Raster.{wire_at}
use Rattle.block_grid.proofs.raster.kinds.Given as goal

abbrev pub invariant-loop-row : goal.invariant-loop-row
invariant-loop-row l =
    l.kinds.items ≡ flat_map (λ row. map (wire_at l.norths.items l.wests.items l.rows l.cols row) (range_with_len 0 l.cols)) (range_with_len 0 l.row)
