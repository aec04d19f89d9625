-- What the rest of the line crosses is still to be marked.
use Rattle.std.proofs.Common.{[], ◌∷◌, ◌++◌, drop, nat_lt, length}
use Rattle.block_grid.specs.Lines.{norths}
use Rattle.block_grid.specs.Raster.{IsMarkable}
use Rattle.block_grid.specs.Sheets.{north_of}
use Rattle.block_grid.proofs.Marks.{IsLeft}
use Rattle.block_grid.proofs.edge.Edge.mark_norths.Given as goal

abbrev pub invariant-loop-there : goal.invariant-loop-there
invariant-loop-there l =
    IsMarkable l.cols (length l.fn.marks) (l.here)
    × IsLeft l.cols l.fn.marks l.marks (λ row col. nat_lt 0 (norths l.here (drop l.there-index l.there-items ++ l.self.finish ∷ []) row col))
    (λ row col. nat_lt 0 (north_of l.self row col))
