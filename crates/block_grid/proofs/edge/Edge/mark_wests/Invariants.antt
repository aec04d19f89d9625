-- What the rest of the line crosses is still to be marked.
use Rattle.std.proofs.Common.{[], ◌∷◌, ◌++◌, drop, nat_lt, length}
use Rattle.block_grid.specs.Lines.{wests}
use Rattle.block_grid.specs.Raster.{IsMarkable, flipped}
use Rattle.block_grid.specs.Sheets.{west_of}
use Rattle.block_grid.proofs.Marks.{IsLeft}
use Rattle.block_grid.proofs.edge.Edge.mark_wests.Given as goal

abbrev pub invariant-loop-there : goal.invariant-loop-there
invariant-loop-there l =
    IsMarkable l.rows (length l.fn.marks) (flipped l.here)
    × IsLeft l.rows l.fn.marks l.marks (λ col row. nat_lt 0 (wests l.here (drop l.there-index l.there-items ++ l.self.finish ∷ []) row col))
    (λ col row. nat_lt 0 (west_of l.self row col))
