-- The sort keeps the boxes, and puts them in the order of their columns.
use Rattle.std.proofs.Common.{rules}
use Rattle.std.proofs.lemmas.List.Sorted.{IsPermutation-sym}
use Rattle.geom.proofs.Lists.{permuted}
use Rattle.geom.proofs.Sorts.{columns_sorted}
use Rattle.geom.proofs.stacking.sort_by_column.Goals as goal

pub returns-clause-same : goal.returns-clause-same
returns-clause-same c = λ b. (
  permuted c.sort_by_key.new.self.items c.args.boxes.now.items b (IsPermutation-sym c.args.boxes.now.items c.sort_by_key.new.self.items c.in_ok-sort_by_key.ensures.permutation),
  permuted c.args.boxes.now.items c.sort_by_key.new.self.items b c.in_ok-sort_by_key.ensures.permutation,
)

pub returns-clause-sorted : goal.returns-clause-sorted
returns-clause-sorted c = columns_sorted _ c.in_ok-sort_by_key.ensures.sorted (λ a r q k. search rules)
