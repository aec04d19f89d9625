use Rattle.std.proofs.Common.{ℕ, ◌<◌, get_or}
use Rattle.rx_lang.specs.VectorWords.{MarksWord, node_tree}
use Rattle.rx_lang.proofs.marking.some_marks.Given as goal

-- no expression before marks the word
abbrev pub invariant-loop-root : goal.invariant-loop-root
invariant-loop-root l = (k : ℕ) → k < l.root-index → MarksWord l.spec (node_tree l.spec (get_or l.roots k 0)) l.output l.word → ⊥
