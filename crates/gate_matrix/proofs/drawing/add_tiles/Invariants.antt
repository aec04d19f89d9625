-- The tiles of the columns so far.
use Rattle.std.proofs.Common.{◌≡◌, ℕ, ◌+◌, ◌++◌, ◌==◌, length, get_or, map}
use Rattle.std.specs.List.{range_with_len}
use Rattle.micro_tiles.specs.Basics.{number_named}
use Rattle.gate_matrix.specs.declared.column.Column.TheVariants as columns
use Rattle.gate_matrix.specs.Cells.{cell}
use Rattle.gate_matrix.proofs.drawing.add_tiles.Given as goal

abbrev pub invariant-loop-col : goal.invariant-loop-col
invariant-loop-col l =
    l.tiles.items ≡ l.fn.tiles.items ++ map (λ (col : ℕ). number_named (cell l.row (get_or l.columns col columns.Load) (col + 1 == length l.columns))) (range_with_len 0 l.col)
