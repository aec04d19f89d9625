use Rattle.std.proofs.Common.{arith}
use Rattle.block_grid.specs.Changes.{edge_moved, rows_shifted}
use Rattle.block_grid.proofs.Mapped.{mapped_more}
use Rattle.block_grid.proofs.edge.shift_all_rows.Goals as goal

pub loop-edge-preserved : goal.loop-edge-preserved
loop-edge-preserved c =
    mapped_more (edge_moved
    (rows_shifted c.args.at c.args.by)) c.args.edges.now c.loop-edge.edges c.loop-edge.edge-index c.edge-item.result c.shift_rows.new.self
    (omega arith) c.loop-edge.invariant c.shift_rows.ensures
