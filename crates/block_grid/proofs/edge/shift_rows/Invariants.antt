use Rattle.std.proofs.Common.{◌≡◌, ◌++◌, map, take, drop}
use Rattle.block_grid.specs.Changes.{rows_shifted}
use Rattle.block_grid.proofs.edge.shift_rows.Given as goal

abbrev pub invariant-loop-place : goal.invariant-loop-place
invariant-loop-place l = l.places ≡ map (rows_shifted l.at l.by) (take l.place-index l.initial.places) ++ drop l.place-index l.initial.places
