use Rattle.std.proofs.Common.{arith}
use Rattle.block_grid.specs.Changes.{rows_shifted}
use Rattle.block_grid.proofs.Mapped.{mapped_more}
use Rattle.block_grid.proofs.edge.shift_rows.Goals as goal

pub loop-place-preserved : goal.loop-place-preserved
loop-place-preserved c = mapped_more (rows_shifted c.args.at c.args.by) c.args.places.now c.loop-place.places c.loop-place.place-index (
  0,
  0,
) _ (omega arith) c.loop-place.invariant (cc)
