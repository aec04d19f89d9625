-- The borders so far are marked.
use Rattle.std.proofs.Common.{◌≤◌}
use Rattle.block_grid.specs.Raster.{AddsMarks}
use Rattle.block_grid.proofs.Marks.{so_far}
use Rattle.block_grid.proofs.edge.mark_stretch.Given as goal

abbrev pub invariant-loop-row : goal.invariant-loop-row
invariant-loop-row l = (l.low ≤ l.row) × AddsMarks l.cols l.fn.marks l.marks (so_far l.from.1 l.low l.row)
