-- The sort keeps the queries and puts them in the order of their rows.
use Rattle.std.proofs.Common.{rules}
use Rattle.canonical_boxes.proofs.Queries.{rows_rise}
use Rattle.canonical_boxes.proofs.locating.by_row.Goals as goal

pub returns : goal.returns
returns c = rows_rise c.args.squares.now _ _ c.in_ok-sort_by_key.ensures.permutation c.in_ok-sort_by_key.ensures.sorted
    (λ a r q k. search rules) c.in_ok-queries.ensures
