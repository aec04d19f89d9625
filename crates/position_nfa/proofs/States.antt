-- The states that an automaton has.
use Rattle.std.specs.Prelude.{ℕ, ◌<◌, length, ⊤}
use Rattle.rx_lang.specs.Positions.{State, start, scan_start, after}
use Rattle.position_nfa.specs.Automaton.{Automaton}

-- the starts, and one for each position
abbrev pub IsState : Automaton → State → Type 0
IsState nfa start = ⊤
IsState nfa scan_start = ⊤
IsState nfa (after p) = p < length nfa.symbols
