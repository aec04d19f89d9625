-- The boxes that pass stand first, and the search finds how many.
use Rattle.std.proofs.Common.{rules}
use Rattle.std.proofs.lemmas.List.Sorted.{IsPartitionPoint-from_clause}
use Rattle.canonical_boxes.specs.Standing.{is_reached}
use Rattle.canonical_boxes.proofs.Counts.{reached_partitioned, counted}
use Rattle.canonical_boxes.proofs.standing.count_reached.Goals as goal

pub returns-clause-numbers : goal.returns-clause-numbers
returns-clause-numbers c =
    let parted = reached_partitioned c.args.y c.args.x c.args.boxes.now c.requires in
    let point = IsPartitionPoint-from_clause
    (is_reached c.args.y c.args.x) c.args.boxes.now c.partition_point.result c.partition_point.ensures.partitioned parted
    (λ a r q k. search rules) in
    counted (is_reached c.args.y c.args.x) c.args.boxes.now c.partition_point.result point
