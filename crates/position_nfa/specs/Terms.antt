-- How many terms the array of a position automaton has.
use Rattle.std.specs.Prelude.{ℕ, ◌+◌, ◌==◌, not, Bool, List, ◌∷◌, length, map, sum_by, count_by, slice_index_or}
use Rattle.std.specs.List.{range_with_len, list_any}
use Rattle.rx_lang.specs.Positions.{State, start, scan_start, after}
use Rattle.position_nfa.specs.Automaton.{Automaton, next_of, mask_of}

-- the starts, and the positions in order
abbrev pub states : Automaton → List State
states nfa = start ∷ scan_start ∷ map (λ p. after p) (range_with_len 0 (length nfa.symbols))

-- some position of the list has the symbol
abbrev pub occurs : List ℕ → List ℕ → ℕ → Bool
occurs symbols positions s = list_any (λ q. slice_index_or symbols q 0 == s) positions

-- all numbers that a symbol may have
unfoldable pub symbol_numbers : List ℕ
symbol_numbers = range_with_len 0 256

-- how many symbols the positions of the list have
abbrev pub symbol_count : List ℕ → List ℕ → ℕ
symbol_count symbols positions = count_by (occurs symbols positions) symbol_numbers

-- the mask has a bit
abbrev pub is_marked : ℕ → Bool
is_marked mask = not (mask == 0)

-- one term for each state and each symbol on which it goes on, and one for each state in which an output is marked
abbrev pub term_count : Automaton → ℕ
term_count nfa =
    sum_by (λ state. symbol_count nfa.symbols (next_of nfa state)) (states nfa) + count_by (λ state. is_marked (mask_of nfa state)) (states nfa)
