use Rattle.std.proofs.Common.{false, get_or, arith}
use Rattle.block_grid.specs.declared.standing.Standing.{Standing}
use Rattle.block_grid.specs.Changes.{node_moved, rows_shifted}
use Rattle.block_grid.proofs.Mapped.{mapped_more}
use Rattle.block_grid.proofs.standing.shift_rows.Goals as goal

pub loop-node-preserved : goal.loop-node-preserved
loop-node-preserved c =
    let none : Standing = record { node = 0; frame = false; row = 0; col = 0 } in
    let node : Standing = get_or c.loop-node.nodes c.loop-node.node-index none in
    mapped_more (node_moved (rows_shifted c.args.at c.args.by)) c.args.nodes.now c.loop-node.nodes c.loop-node.node-index none
    (record node { row = c.shifted-node.result }) (omega arith) c.loop-node.invariant (cc)
