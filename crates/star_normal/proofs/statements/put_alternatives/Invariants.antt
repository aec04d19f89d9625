use Rattle.std.proofs.Common.{◌≡◌, ◌++◌, ◌-◌, length, map}
use Rattle.rx_lang.specs.Tables.{tree_at}
use Rattle.star_normal.specs.Labels.{label_of}
use Rattle.star_normal.specs.Outlines.{copied_trees}
use Rattle.star_normal.specs.Unions.{union_labels}
use Rattle.star_normal.proofs.statements.put_alternatives.Given as goal

abbrev pub invariant-loop-j : goal.invariant-loop-j
invariant-loop-j l =
    map label_of l.labels.items ++ union_labels (map (tree_at (copied_trees l.nodes)) l.roots) (l.j - 1)
    ≡ map label_of l.initial.labels.items ++ union_labels (map (tree_at (copied_trees l.nodes)) l.roots) (length l.roots - 1)
