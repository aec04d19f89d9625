-- What a position automaton shows of the vectors that it reads.
use Rattle.std.specs.Prelude.{◌≡◌, ℕ, true, List, [], ◌∷◌, slice_index_or, Contains, ⊤}
use Rattle.rx_lang.specs.Vector.{Bits}
use Rattle.rx_lang.specs.Specification.{NamedPattern, MatchesSymbol}
use Rattle.rx_lang.specs.Positions.{State, start, scan_start, after}
use Rattle.position_nfa.specs.Automaton.{Automaton, next_of, mask_of, has_output}

-- Before the first vector the automaton is in both starts.
abbrev pub Begun : State → Type 0
Begun start = ⊤
Begun scan_start = ⊤
Begun (after p) = ⊥

module _ (nfa : Automaton) (symbols : List NamedPattern) where
  -- The states after a vector, from those before: the positions to which one of them leads, and whose symbol the vector matches.
  -- The scan start is never left.
  abbrev pub Next : (State → Type 0) → Bits → State → Type 0
  Next P x start = ⊥
  Next P x scan_start = ⊤
  Next P x (after q) = (state : State) × P state × Contains (next_of nfa state) q × MatchesSymbol symbols (slice_index_or nfa.symbols q 0) x

  -- the states after each vector of a word
  abbrev pub Along : (State → Type 0) → List Bits → State → Type 0
  Along P [] = P
  Along P (x ∷ u) = Along (Next P x) u

  -- After the word the automaton is in a state in which the output is marked.
  abbrev pub ShowsByStates : ℕ → List Bits → Type 0
  ShowsByStates y u = (state : State) × Along Begun u state × (has_output (mask_of nfa state) y ≡ true)
