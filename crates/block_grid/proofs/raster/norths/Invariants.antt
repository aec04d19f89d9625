-- The borders that the edges so far cross are marked.
use Rattle.std.proofs.Common.{◌≡◌, ◌+◌, ◌*◌, length, nat_lt, take}
use Rattle.std.specs.List.{list_any}
use Rattle.block_grid.specs.Raster.{Tells}
use Rattle.block_grid.specs.Sheets.{north_of}
use Rattle.block_grid.proofs.raster.norths.Given as goal

abbrev pub invariant-loop-edge : goal.invariant-loop-edge
invariant-loop-edge l =
    (length l.marks.items ≡ (l.rows + 1) * l.cols)
    × Tells l.cols l.marks.items (l.rows + 1) (λ row col. list_any (λ e. nat_lt 0 (north_of e row col)) (take l.edge-index l.edges))
