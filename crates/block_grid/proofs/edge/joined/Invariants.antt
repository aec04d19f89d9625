use Rattle.std.proofs.Common.{◌≡◌, ◌++◌}
use Rattle.block_grid.proofs.edge.joined.Given as goal

abbrev pub invariant-loop-edge : goal.invariant-loop-edge
invariant-loop-edge l = l.edges.items ≡ l.initial.edges.items ++ l.yielded
