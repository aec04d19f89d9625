use Rattle.std.proofs.Common.{◌↔◌, ◌≤◌, List}
use Rattle.rx_lang.specs.declared.vector.Vector.{Vector}
use Rattle.rx_lang.specs.VectorWords.{SpellsWord, node_tree}
use Rattle.rx_lang.specs.Wrapped.{wrap}
use Rattle.rx_lang.proofs.wrapped.unwrapped.Given as goal

abbrev pub invariant-loop-core : goal.invariant-loop-core
invariant-loop-core l =
    (l.node ≤ l.fn.expr)
    × ((word : List Vector) → SpellsWord l.spec (node_tree l.spec l.fn.expr) word ↔ SpellsWord l.spec (wrap l.loops l.empty (node_tree l.spec l.node)) word)

abbrev pub decreases-loop-core : goal.decreases-loop-core
decreases-loop-core l = l.node
