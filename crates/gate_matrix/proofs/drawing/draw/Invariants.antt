-- The tiles of the rows so far.
use Rattle.std.proofs.Common.{◌≡◌, take}
use Rattle.std.specs.Prelude.{flat_map}
use Rattle.gate_matrix.specs.Cells.{row_tiles}
use Rattle.gate_matrix.proofs.drawing.draw.Given as goal

abbrev pub invariant-loop-row : goal.invariant-loop-row
invariant-loop-row l = l.tiles.items ≡ flat_map (λ row. row_tiles row l.columns.items) (take l.row-index l.row-items)
