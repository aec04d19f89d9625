-- The programmable logic array of a specification: the registers of its position automaton, and a column for each of their nets.
use Rattle.std.specs.Prelude.{ℕ, ◌+◌, ◌*◌, ◌≤◌, List, [], ◌∷◌, ◌++◌, length, map, flat_map}
use Rattle.std.specs.List.{range_with_len}
use Rattle.rx_lang.specs.Tables.{Tables, IsSpecification}
use Rattle.position_nfa.specs.declared.array_nets.ArrayCounts.{ArrayCounts}
use Rattle.position_nfa.specs.Automaton.{Automaton, IsAutomaton}
use Rattle.position_nfa.specs.Registers.{RegisterTables, array_counts, reset_net, registers_of}
use Rattle.pla_plan.specs.Planes.{PlaneTables}
use Rattle.pla_plan.specs.Fits.{IsArray}

-- so many columns, of which each second one is taken
abbrev pub every_second : ℕ → ℕ → List ℕ
every_second first count = map (λ k. first + 2 * k) (range_with_len 0 count)

-- the first column of the plane of sums: before it stand two columns for loads, two for each net up to the ground, and one
-- more, in which rows of the plane of terms go on in poly
abbrev pub sums_from : ArrayCounts → ℕ
sums_from c = 2 * reset_net c + 7

-- the third and the fifth of the eight columns of an output's sum: its complement and itself
abbrev pub output_columns : ℕ → ℕ → List ℕ
output_columns first y = (first + 8 * y + 2) ∷ (first + 8 * y + 4) ∷ []

-- The columns of the part's nets in their order: those up to the ground, the four nets of each position's register in the eight
-- columns of its sum, the two nets of each output in those of its sum, and behind the sums the clocks and the start's register.
abbrev pub array_places : ArrayCounts → List ℕ
array_places c =
    every_second 2 (reset_net c + 2)
    ++ (every_second (sums_from c) (4 * c.positions)
    ++ (flat_map (output_columns (sums_from c + 8 * c.positions)) (range_with_len 0 c.outputs)
    ++ every_second (sums_from c + 8 * (c.positions + c.outputs)) 4))

-- The registers as an array. Its height grows by five rows for each term.
abbrev pub array_with : ArrayCounts → RegisterTables → PlaneTables
array_with c registers = record {
  left = registers.left;
  terms = registers.terms;
  sums = registers.sums;
  part = registers.part;
  at = array_places c;
  rows = 5 * length registers.terms + 16 * c.positions + 5 * (c.lines + c.outputs) + 30;
  cols = 2 * registers.left + 8 * (c.positions + c.outputs) + 20;
}

-- the array of a position automaton under a specification's symbols
abbrev pub array_of : Automaton → Tables → PlaneTables
array_of nfa tables = array_with (array_counts nfa tables) (registers_of nfa tables)

-- An automaton of at most 256 positions makes an array under each specification.
abbrev pub AutomataMakeArrays : Type 0
AutomataMakeArrays = (nfa : Automaton) (tables : Tables) → IsAutomaton nfa → IsSpecification tables → length nfa.symbols ≤ 256
    → IsArray (array_of nfa tables)
