use Rattle.std.proofs.Common.{◌≡◌, ◌++◌, map, take, drop}
use Rattle.block_grid.specs.Changes.{edge_moved, rows_shifted}
use Rattle.block_grid.proofs.edge.shift_all_rows.Given as goal

abbrev pub invariant-loop-edge : goal.invariant-loop-edge
invariant-loop-edge l = l.edges ≡ map (edge_moved (rows_shifted l.at l.by)) (take l.edge-index l.initial.edges) ++ drop l.edge-index l.initial.edges
