-- The columns so far.
use Rattle.std.proofs.Common.{◌≡◌}
use Rattle.node_cell.specs.Made.{net_cols}
use Rattle.node_cell.proofs.matrix.net_cols.Given as goal

abbrev pub invariant-loop-net : goal.invariant-loop-net
invariant-loop-net l = l.cols.items ≡ net_cols l.net
