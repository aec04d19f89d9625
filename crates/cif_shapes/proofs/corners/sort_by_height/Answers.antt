-- The sort puts the points in the order of their heights.
use Rattle.std.proofs.Common.{rules}
use Rattle.cif_shapes.proofs.Heights.{sorted_heights}
use Rattle.cif_shapes.proofs.corners.sort_by_height.Goals as goal

pub returns-clause-rise : goal.returns-clause-rise
returns-clause-rise c = sorted_heights _ c.in_ok-sort_by_key.ensures.sorted (λ a r q k. search rules)
