-- The sort keeps the boxes, and puts their lower edges in order.
use Rattle.std.proofs.Common.{rules}
use Rattle.geom.proofs.Sorts.{rows_sorted}
use Rattle.geom.proofs.merging.sort_by_row.Goals as goal

pub returns : goal.returns
returns c = rows_sorted _ _ c.in_ok-sort_by_key.ensures.permutation c.in_ok-sort_by_key.ensures.sorted c.in_ok-sort_by_key.ensures.stable (λ a r q k. search rules)
