use Rattle.std.proofs.Common.{ℕ, ◌+◌, ◌-◌, ◌*◌, ◌^◌, ◌<◌, ◌≤◌, length, max, take, drop}
use Rattle.rx_lang.specs.Around.{ManyAround}
use Rattle.rx_lang.specs.Expression.{repeated, star}
use Rattle.rx_lang.specs.VectorWords.{SpellsWord, node_tree}
use Rattle.rx_lang.specs.Wrapped.{above, core_tree}
use Rattle.rx_lang.proofs.spelling.+spelling.Given as goal

abbrev pub decreases-accepts : goal.decreases-accepts
decreases-accepts l = (3 * l.expr + 2) * 2 ^ 34 + 1

abbrev pub decreases-spells_wrapped : goal.decreases-spells_wrapped
decreases-spells_wrapped l = (3 * above l.wrapped.core + 2) * 2 ^ 34

abbrev pub decreases-spells_many : goal.decreases-spells_many
decreases-spells_many l = (3 * above l.core + 1) * 2 ^ 34 + 2 * length l.word.now

abbrev pub decreases-spells_around : goal.decreases-spells_around
decreases-spells_around l = (3 * above l.core + 1) * 2 ^ 34 + 2 * (length l.front.now + (length l.behind.now - l.least)) + 1

abbrev pub decreases-spells_once : goal.decreases-spells_once
decreases-spells_once l = 3 * above l.core * 2 ^ 34

abbrev pub decreases-spells_sequence : goal.decreases-spells_sequence
decreases-spells_sequence l = (3 * max l.first l.second + 2) * 2 ^ 34 + 2

-- no shorter piece in the middle does
abbrev pub invariant-spells_around-loop-size : goal.invariant-spells_around-loop-size
invariant-spells_around-loop-size l =
    (n : ℕ) → l.least ≤ n → n < l.size → SpellsWord l.spec (core_tree l.spec l.core) (take n l.behind) → SpellsWord l.spec (star (core_tree l.spec l.core)) l.front
    → SpellsWord l.spec (star (core_tree l.spec l.core)) (drop n l.behind) → ⊥

-- no piece that begins before does
abbrev pub invariant-spells_many-loop-start : goal.invariant-spells_many-loop-start
invariant-spells_many-loop-start l =
    (n : ℕ) → n < l.start → ManyAround l.spec (core_tree l.spec l.core) (take n l.word) (drop n l.word) (l.middle - n + 1) → ⊥

-- no shorter front does
abbrev pub invariant-spells_sequence-loop-cut : goal.invariant-spells_sequence-loop-cut
invariant-spells_sequence-loop-cut l =
    (n : ℕ) → n < l.cut → SpellsWord l.spec (node_tree l.spec l.first) (take n l.word) → SpellsWord l.spec (node_tree l.spec l.second) (drop n l.word) → ⊥

abbrev pub decreases-spells_repeat : goal.decreases-spells_repeat
decreases-spells_repeat l = (3 * l.inner + 2) * 2 ^ 34 + 2 + 2 * l.most

abbrev pub decreases-spells_next : goal.decreases-spells_next
decreases-spells_next l = (3 * l.inner + 2) * 2 ^ 34 + 3 + 2 * l.most

-- no shorter front does
abbrev pub invariant-spells_next-loop-cut : goal.invariant-spells_next-loop-cut
invariant-spells_next-loop-cut l =
    (n : ℕ) → n < l.cut → SpellsWord l.spec (node_tree l.spec l.inner) (take n l.word)
    → SpellsWord l.spec (repeated (node_tree l.spec l.inner) l.least l.most) (drop n l.word) → ⊥
