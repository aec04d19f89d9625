use Rattle.std.proofs.Common.{◌≡◌, ◌++◌, false, length, map}
use Rattle.rx_lang.specs.Tables.{tree_at}
use Rattle.star_normal.specs.Labels.{tree_labels, label_of}
use Rattle.star_normal.specs.Normal.{normal}
use Rattle.star_normal.specs.Outlines.{copied_trees}
use Rattle.star_normal.specs.Tasks.{AreTasks, waiting_labels, waiting_weight}
use Rattle.star_normal.proofs.labelling.put_normal.Given as goal

abbrev pub invariant-loop-task : goal.invariant-loop-task
invariant-loop-task l =
    AreTasks (length l.outlines) l.tasks.items
    × (map label_of l.labels.items ++ waiting_labels (copied_trees l.nodes) l.tasks.items
    ≡ map label_of l.initial.labels.items ++ tree_labels (normal false (tree_at (copied_trees l.nodes) l.node)))

abbrev pub decreases-loop-task : goal.decreases-loop-task
decreases-loop-task l = waiting_weight (copied_trees l.nodes) l.tasks.items
