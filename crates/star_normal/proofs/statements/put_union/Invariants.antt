use Rattle.std.proofs.Common.{◌≡◌, ◌++◌, map, flat_map, take}
use Rattle.rx_lang.specs.Tables.{tree_at}
use Rattle.star_normal.specs.Labels.{label_of}
use Rattle.star_normal.specs.Outlines.{copied_trees}
use Rattle.star_normal.proofs.Stated.{put_labels}
use Rattle.star_normal.proofs.statements.put_union.Given as goal

abbrev pub invariant-loop-root : goal.invariant-loop-root
invariant-loop-root l =
    map label_of l.labels.items
    ≡ map label_of l.initial.labels.items ++ flat_map put_labels (map (tree_at (copied_trees l.nodes)) (take l.root-index l.roots))
