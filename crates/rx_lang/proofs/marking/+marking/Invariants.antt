use Rattle.std.proofs.Common.{ℕ, ◌+◌, ◌*◌, ◌<◌, take, drop}
use Rattle.rx_lang.specs.Expression.{star}
use Rattle.rx_lang.specs.VectorWords.{MarksWord, SpellsWord, node_tree}
use Rattle.rx_lang.specs.Wrapped.{MarksRepeated, above, core_tree}
use Rattle.rx_lang.proofs.marking.+marking.Given as goal

abbrev pub decreases-marks : goal.decreases-marks
decreases-marks l = (4 * l.expr + 2) * 1024

abbrev pub decreases-marks_behind : goal.decreases-marks_behind
decreases-marks_behind l = (4 * above l.core + 1) * 1024

abbrev pub decreases-marks_once : goal.decreases-marks_once
decreases-marks_once l = 4 * above l.core * 1024

abbrev pub decreases-marks_second : goal.decreases-marks_second
decreases-marks_second l = (4 * l.second + 3) * 1024

-- no shorter front does
abbrev pub invariant-marks_second-loop-cut : goal.invariant-marks_second-loop-cut
invariant-marks_second-loop-cut l =
    (n : ℕ) → n < l.cut → SpellsWord l.spec (node_tree l.spec l.first) (take n l.word) → MarksWord l.spec (node_tree l.spec l.second) l.output (drop n l.word) → ⊥

-- no shorter front does
abbrev pub invariant-marks_behind-loop-cut : goal.invariant-marks_behind-loop-cut
invariant-marks_behind-loop-cut l =
    (n : ℕ) → n < l.cut → SpellsWord l.spec (star (core_tree l.spec l.core)) (take n l.word) → MarksWord l.spec (core_tree l.spec l.core) l.output (drop n l.word) → ⊥

abbrev pub decreases-marks_repeat : goal.decreases-marks_repeat
decreases-marks_repeat l = (4 * l.inner + 2) * 1024 + 1 + 2 * l.most

abbrev pub decreases-marks_next : goal.decreases-marks_next
decreases-marks_next l = (4 * l.inner + 2) * 1024 + 2 + 2 * l.most

-- no shorter front does
abbrev pub invariant-marks_next-loop-cut : goal.invariant-marks_next-loop-cut
invariant-marks_next-loop-cut l =
    (n : ℕ) → n < l.cut → SpellsWord l.spec (node_tree l.spec l.inner) (take n l.word)
    → MarksRepeated l.spec (node_tree l.spec l.inner) l.most l.output (drop n l.word) → ⊥
