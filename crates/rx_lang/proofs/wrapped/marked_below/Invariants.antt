use Rattle.std.proofs.Common.{◌↔◌, ◌≤◌, List}
use Rattle.rx_lang.specs.declared.vector.Vector.{Vector}
use Rattle.rx_lang.specs.VectorWords.{MarksWord, node_tree}
use Rattle.rx_lang.specs.Wrapped.{MarksBelow}
use Rattle.rx_lang.proofs.wrapped.marked_below.Given as goal

abbrev pub invariant-loop-core : goal.invariant-loop-core
invariant-loop-core l =
    (l.node ≤ l.fn.expr)
    × ((word : List Vector) → MarksWord l.spec (node_tree l.spec l.fn.expr) l.output word
    ↔ MarksBelow l.spec l.marked l.loops l.empty (node_tree l.spec l.node) l.output word)

abbrev pub decreases-loop-core : goal.decreases-loop-core
decreases-loop-core l = l.node
