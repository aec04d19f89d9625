use Rattle.std.proofs.Common.{◌≡◌, ◌++◌, map, take, drop}
use Rattle.block_grid.specs.Changes.{node_moved, rows_shifted}
use Rattle.block_grid.proofs.standing.shift_rows.Given as goal

abbrev pub invariant-loop-node : goal.invariant-loop-node
invariant-loop-node l = l.nodes ≡ map (node_moved (rows_shifted l.at l.by)) (take l.node-index l.initial.nodes) ++ drop l.node-index l.initial.nodes
