use Rattle.std.proofs.Common.{◌≡◌, [], ◌∷◌, ◌++◌, drop}
use Rattle.block_grid.specs.Lines.{wests}
use Rattle.block_grid.specs.Sheets.{west_of}
use Rattle.block_grid.proofs.edge.Edge.crosses_west.Given as goal

-- from here on the line crosses the border as often as the whole line
abbrev pub invariant-loop-there : goal.invariant-loop-there
invariant-loop-there l = wests l.here (drop l.there-index l.there-items ++ l.self.finish ∷ []) l.row l.col ≡ west_of l.self l.row l.col
