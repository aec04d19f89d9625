use Rattle.std.proofs.Common.{◌≡◌, [], ◌∷◌, ◌++◌, drop}
use Rattle.block_grid.specs.Lines.{norths}
use Rattle.block_grid.specs.Sheets.{north_of}
use Rattle.block_grid.proofs.edge.Edge.crosses_north.Given as goal

-- from here on the line crosses the border as often as the whole line
abbrev pub invariant-loop-there : goal.invariant-loop-there
invariant-loop-there l = norths l.here (drop l.there-index l.there-items ++ l.self.finish ∷ []) l.row l.col ≡ north_of l.self l.row l.col
