-- When a position automaton is that of a specification.
use Rattle.std.specs.Prelude.{◌≡◌, ◌≢◌, ◌↔◌, ℕ, true, AllPairs, Contains}
use Rattle.rx_lang.specs.Copies.{IsItself}
use Rattle.rx_lang.specs.Specification.{Specification}
use Rattle.rx_lang.specs.Positions.{State, occurrence_symbols, expr_letters, scan_letters, IsStateOf, LeadsTo, ShowsMark}
use Rattle.star_normal.specs.Trees.{FlaggedTree, leaves}
use Rattle.star_normal.specs.Shapes.{tree_numbered, rest_part, scan_part}
use Rattle.star_normal.specs.Laws.{PartHasWords}
use Rattle.position_nfa.specs.Automaton.{Automaton, next_of, mask_of, has_output}

-- The positions are the occurrences. Each state leads to those with which words may go on, no list repeats one, and each state
-- shows the outputs for which words are marked there.
pub record IsAutomatonOf (spec : Specification) (nfa : Automaton) : Type 0 where
  pub symbols : nfa.symbols ≡ occurrence_symbols spec
  pub leads : (state : State) (q : ℕ) → IsStateOf spec state → Contains (next_of nfa state) q ↔ LeadsTo spec state q
  pub once : (state : State) → IsStateOf spec state → AllPairs (λ a b. a ≢ b) (next_of nfa state)
  pub shows : (state : State) (y : ℕ) → IsStateOf spec state → (has_output (mask_of nfa state) y ≡ true) ↔ ShowsMark spec state y

-- The tree has the occurrences of the specification as its leaves, and with each of them as a letter of its own its scan node
-- has the words of the `scan` statements, and the rest of it those of the `expr` statements.
pub record IsTreeOf (spec : Specification) (t : FlaggedTree) : Type 0 where
  pub leaves : leaves t ≡ occurrence_symbols spec
  pub letters : PartHasWords IsItself (expr_letters spec) (rest_part (tree_numbered 0 t))
  pub scan_letters : PartHasWords IsItself (scan_letters spec) (scan_part (tree_numbered 0 t))
