-- Position automata as tables.
use Rattle.std.specs.Prelude.{◌≡◌, ℕ, suc, ◌+◌, ◌<◌, ◌≤◌, ◌==◌, Bool, List, [], length, slice_index_or, All}
use Rattle.std.specs.Int.{bit_at}
use Rattle.rx_lang.specs.Positions.{State, start, scan_start, after}

-- The symbol of each position; the positions with which words begin at the reset, and those with which they begin at any time;
-- for each position those that may follow it; as masks of outputs what is marked at the reset and at each position, and what
-- is marked at all times.
pub record Automaton : Type 0 where
  pub symbols : List ℕ
  pub first : List ℕ
  pub scan_first : List ℕ
  pub follow : List (List ℕ)
  pub marked : List ℕ
  pub scan_marked : ℕ

-- all these positions are below the number
abbrev pub AreBelow : ℕ → List ℕ → Type 0
AreBelow n positions = All (λ q. q < n) positions

-- There are 1 to 4096 positions, and all that are named are below their number.
pub record IsAutomaton (nfa : Automaton) : Type 0 where
  pub some : 1 ≤ length nfa.symbols
  pub few : length nfa.symbols ≤ 4096
  pub follow_sized : length nfa.follow ≡ length nfa.symbols
  pub marked_sized : length nfa.marked ≡ length nfa.symbols + 1
  pub first : AreBelow (length nfa.symbols) nfa.first
  pub scan_first : AreBelow (length nfa.symbols) nfa.scan_first
  pub follow : All (AreBelow (length nfa.symbols)) nfa.follow

-- the positions to which a state leads
abbrev pub next_of : Automaton → State → List ℕ
next_of nfa start = nfa.first
next_of nfa scan_start = nfa.scan_first
next_of nfa (after p) = slice_index_or nfa.follow p []

-- the mask of the outputs that are marked in a state
abbrev pub mask_of : Automaton → State → ℕ
mask_of nfa start = slice_index_or nfa.marked 0 0
mask_of nfa scan_start = nfa.scan_marked
mask_of nfa (after p) = slice_index_or nfa.marked (p + 1) 0

-- bit y of the mask is set
abbrev pub has_output : ℕ → ℕ → Bool
has_output mask y = bit_at mask y == 1
