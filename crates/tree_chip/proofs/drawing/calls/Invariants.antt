-- The calls of the rows so far.
use Rattle.std.proofs.Common.{◌≡◌}
use Rattle.block_grid.specs.Sheets.{block_at}
use Rattle.tree_chip.specs.KindNumbers.{calls_in_rows, number_at}
use Rattle.tree_chip.proofs.drawing.calls.Given as goal

abbrev pub invariant-loop-row : goal.invariant-loop-row
invariant-loop-row l =
    l.calls.items ≡ calls_in_rows l.width l.blocks.rows l.blocks.cols (λ row col. number_at l.wires l.cells (block_at l.blocks row col)) l.row
