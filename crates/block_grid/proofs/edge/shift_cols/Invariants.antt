use Rattle.std.proofs.Common.{◌≡◌, ◌++◌, map, take, drop}
use Rattle.block_grid.specs.Changes.{cols_shifted}
use Rattle.block_grid.proofs.edge.shift_cols.Given as goal

abbrev pub invariant-loop-place : goal.invariant-loop-place
invariant-loop-place l = l.places ≡ map (cols_shifted l.at l.by) (take l.place-index l.initial.places) ++ drop l.place-index l.initial.places
