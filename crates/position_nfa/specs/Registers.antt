-- The netlist of a position automaton's registers: a plane of terms, a plane of sums, and a register for each position, in the
-- order of the columns of its programmable logic array (after Floyd and Ullman, 1982).
use Rattle.std.specs.Prelude.{ℕ, ◌+◌, ◌*◌, ◌<◌, ◌≤◌, ◌==◌, ◌&&◌, Bool, ⊤, if◌then◌else◌, List, [], ◌∷◌, ◌++◌, length, map, flat_map, slice_index_or}
use Rattle.std.specs.List.{range_with_len, list_any}
use Rattle.rx_text.specs.declared.pad_name.Role.{Role}
use Rattle.rx_text.specs.declared.pad_name.Role.TheVariants.{Vdd, Gnd, Phi1, Phi2, Reset, Input, Output}
use Rattle.rx_lang.specs.declared.pattern.PatternBit.{PatternBit}
use Rattle.rx_lang.specs.declared.pattern.PatternBit.TheVariants.{Zero, One, Any}
use Rattle.rx_lang.specs.Specification.{NamedPattern}
use Rattle.rx_lang.specs.Tables.{Tables}
use Rattle.rx_lang.specs.Positions.{State, start, scan_start, after, Step}
use Rattle.switch_net.specs.Recognition.{plain_pad, named_pad}
use Rattle.switch_net.specs.declared.network.Pad.{Pad}
use Rattle.nor_net.specs.Netlist.{NorGate, Netlist}
use Rattle.nor_net.specs.Part.{PartTables}
use Rattle.nor_net.specs.SwitchForm.{at}
use Rattle.nor_net.specs.declared.gate.Transfer.{Transfer}
use Rattle.position_nfa.specs.declared.array_nets.ArrayCounts.{ArrayCounts}
use Rattle.position_nfa.specs.declared.steps.State.{State as StateName}
use Rattle.position_nfa.specs.declared.steps.State.TheVariants.{Start, ScanStart, After}
use Rattle.position_nfa.specs.declared.steps.Step.{Step as StepName}
use Rattle.position_nfa.specs.Automaton.{Automaton, next_of, mask_of, has_output}
use Rattle.position_nfa.specs.Terms.{states, occurs}

abbrev pub array_counts : Automaton → Tables → ArrayCounts
array_counts nfa tables = record { lines = length tables.lines; positions = length nfa.symbols; outputs = length tables.outputs }

-- so few lines, positions and outputs as specifications and their automata have
pub record AreFew (c : ArrayCounts) : Type 0 where
  pub lines : c.lines ≤ 16
  pub positions : c.positions ≤ 4096
  pub outputs : c.outputs ≤ 16

-- ---- nets

-- The high supply is net 0. The left plane has the lines, their complements, the complement of each position's state, that of
-- the start, and the reset. Behind it stands the ground.

abbrev pub line_net : ArrayCounts → ℕ → ℕ
line_net c i = 1 + i

abbrev pub complement_net : ArrayCounts → ℕ → ℕ
complement_net c i = 1 + c.lines + i

abbrev pub state_net : ArrayCounts → ℕ → ℕ
state_net c p = 1 + 2 * c.lines + p

abbrev pub start_net : ArrayCounts → ℕ
start_net c = 1 + 2 * c.lines + c.positions

abbrev pub reset_net : ArrayCounts → ℕ
reset_net c = 2 + 2 * c.lines + c.positions

abbrev pub ground_net : ArrayCounts → ℕ
ground_net c = 3 + 2 * c.lines + c.positions

-- A position's register: its sum is stored while PHI1 is high; the inverse of that is stored while PHI2 is high, and then
-- inverted to the complement of its state. The sum is low where the position is reached.

abbrev pub master_net : ArrayCounts → ℕ → ℕ
master_net c p = 4 + 2 * c.lines + c.positions + 4 * p

abbrev pub sum_net : ArrayCounts → ℕ → ℕ
sum_net c p = 5 + 2 * c.lines + c.positions + 4 * p

abbrev pub inverse_net : ArrayCounts → ℕ → ℕ
inverse_net c p = 6 + 2 * c.lines + c.positions + 4 * p

abbrev pub stored_net : ArrayCounts → ℕ → ℕ
stored_net c p = 7 + 2 * c.lines + c.positions + 4 * p

-- an output and its complement, which is the sum of the terms that mark it

abbrev pub shared_net : ArrayCounts → ℕ → ℕ
shared_net c y = 4 + 2 * c.lines + 5 * c.positions + 2 * y

abbrev pub output_net : ArrayCounts → ℕ → ℕ
output_net c y = 5 + 2 * c.lines + 5 * c.positions + 2 * y

-- the clocks, and the start's register, which stores the reset

abbrev pub phi1_net : ArrayCounts → ℕ
phi1_net c = 4 + 2 * c.lines + 5 * c.positions + 2 * c.outputs

abbrev pub phi2_net : ArrayCounts → ℕ
phi2_net c = 5 + 2 * c.lines + 5 * c.positions + 2 * c.outputs

abbrev pub start_master_net : ArrayCounts → ℕ
start_master_net c = 6 + 2 * c.lines + 5 * c.positions + 2 * c.outputs

abbrev pub start_inverse_net : ArrayCounts → ℕ
start_inverse_net c = 7 + 2 * c.lines + 5 * c.positions + 2 * c.outputs

-- the nets of the part below the planes
abbrev pub part_nets : ArrayCounts → ℕ
part_nets c = 8 + 2 * c.lines + 5 * c.positions + 2 * c.outputs

-- the term with this number
abbrev pub term_net : ArrayCounts → ℕ → ℕ
term_net c k = part_nets c + k

-- ---- terms

-- states and steps by the names that the code has for them

abbrev pub state_named : StateName → State
state_named Start = start
state_named ScanStart = scan_start
state_named (After p) = after p

-- the position that the state names, if it does, is below the number
abbrev pub NamesPosition : ℕ → StateName → Type 0
NamesPosition n Start = ⊤
NamesPosition n ScanStart = ⊤
NamesPosition n (After p) = p < n

abbrev pub step_named : StepName → Step
step_named step = record { state = state_named step.state; symbol = step.symbol }

-- a state and a symbol, if the state goes on with it
abbrev pub step_at : Automaton → State → ℕ → List Step
step_at nfa state s = if occurs nfa.symbols (next_of nfa state) s then record { state = state; symbol = s } ∷ [] else []

-- the state with those of so many symbols on which it goes on
abbrev pub steps_from : ℕ → Automaton → State → List Step
steps_from symbols nfa state = flat_map (step_at nfa state) (range_with_len 0 symbols)

-- the states with the symbols on which they go on
abbrev pub steps : ℕ → Automaton → List Step
steps symbols nfa = flat_map (steps_from symbols nfa) (states nfa)

-- the state, if an output is marked in it
abbrev pub marked_at : Automaton → State → List State
marked_at nfa state = if mask_of nfa state == 0 then [] else state ∷ []

-- the states in which an output is marked
abbrev pub marked_states : Automaton → List State
marked_states nfa = flat_map (marked_at nfa) (states nfa)

-- the complement of the state; a word may begin in the scan start at any time
abbrev pub state_inputs : ArrayCounts → State → List ℕ
state_inputs c start = start_net c ∷ []
state_inputs c scan_start = []
state_inputs c (after p) = state_net c p ∷ []

-- what is high where the line does not have the bit that this place of a pattern asks for
abbrev pub literal : ArrayCounts → ℕ → PatternBit → List ℕ
literal c line Zero = line_net c line ∷ []
literal c line One = complement_net c line ∷ []
literal c line Any = []

-- the literals of a pattern, whose first place is that of line 0
abbrev pub literals : ArrayCounts → List PatternBit → List ℕ
literals c pattern = flat_map (λ line. literal c line (slice_index_or pattern line Any)) (range_with_len 0 (length pattern))

-- the pattern of a symbol
abbrev pub pattern_at : List NamedPattern → ℕ → List PatternBit
pattern_at symbols s = (slice_index_or symbols s (record { name = []; pattern = [] })).pattern

-- The term of a step is high in its state while the lines match its symbol and the reset is low.
abbrev pub step_inputs : ArrayCounts → List NamedPattern → Step → List ℕ
step_inputs c symbols step = state_inputs c step.state ++ reset_net c ∷ literals c (pattern_at symbols step.symbol)

-- the term with this number
abbrev pub term_gate : ArrayCounts → ℕ → List ℕ → NorGate
term_gate c k inputs = record { out = term_net c k; inputs = inputs }

abbrev pub step_of : List Step → ℕ → Step
step_of steps k = slice_index_or steps k (record { state = start; symbol = 0 })

abbrev pub marked_of : List State → ℕ → State
marked_of states k = slice_index_or states k start

abbrev pub step_gate : ArrayCounts → List NamedPattern → List Step → ℕ → NorGate
step_gate c symbols steps k = term_gate c k (step_inputs c symbols (step_of steps k))

-- The term of a mark is high in its state. The first one has this number.
abbrev pub mark_gate : ArrayCounts → ℕ → List State → ℕ → NorGate
mark_gate c first marked k = term_gate c (first + k) (state_inputs c (marked_of marked k))

-- a term for each step, and then one for each state in which an output is marked
abbrev pub term_gates : ArrayCounts → List NamedPattern → List Step → List State → List NorGate
term_gates c symbols steps marked =
    map (step_gate c symbols steps) (range_with_len 0 (length steps)) ++ map (mark_gate c (length steps) marked) (range_with_len 0 (length marked))

-- ---- sums

-- The step leads to the position.
abbrev pub leads_to : Automaton → ℕ → Step → Bool
leads_to nfa p step = step.symbol == slice_index_or nfa.symbols p 0 && list_any (λ q. q == p) (next_of nfa step.state)

-- the term of the step, if it leads to the position
abbrev pub feeding_term : ArrayCounts → Automaton → List Step → ℕ → ℕ → List ℕ
feeding_term c nfa steps p k = if leads_to nfa p (step_of steps k) then term_net c k ∷ [] else []

-- the NOR of the terms that lead to the position
abbrev pub sum_gate : ArrayCounts → Automaton → List Step → ℕ → NorGate
sum_gate c nfa steps p = record { out = sum_net c p; inputs = flat_map (feeding_term c nfa steps p) (range_with_len 0 (length steps)) }

-- the term of the mark, if it marks the output
abbrev pub marking_term : ArrayCounts → Automaton → ℕ → List State → ℕ → ℕ → List ℕ
marking_term c nfa first marked y k = if has_output (mask_of nfa (marked_of marked k)) y then term_net c (first + k) ∷ [] else []

-- the NOR of the terms that mark the output
abbrev pub shared_gate : ArrayCounts → Automaton → ℕ → List State → ℕ → NorGate
shared_gate c nfa first marked y =
    record { out = shared_net c y; inputs = flat_map (marking_term c nfa first marked y) (range_with_len 0 (length marked)) }

abbrev pub sum_gates : ArrayCounts → Automaton → List Step → List State → List NorGate
sum_gates c nfa steps marked =
    map (sum_gate c nfa steps) (range_with_len 0 c.positions) ++ map (shared_gate c nfa (length steps) marked) (range_with_len 0 c.outputs)

-- ---- the part below the planes

abbrev pub inverter : ℕ → ℕ → NorGate
inverter out input = record { out = out; inputs = input ∷ [] }

abbrev pub part_gates : ArrayCounts → List NorGate
part_gates c =
    map (λ i. inverter (complement_net c i) (line_net c i)) (range_with_len 0 c.lines)
    ++ map (λ p. inverter (inverse_net c p) (master_net c p)) (range_with_len 0 c.positions)
    ++ map (λ p. inverter (state_net c p) (stored_net c p)) (range_with_len 0 c.positions)
    ++ map (λ y. inverter (output_net c y) (shared_net c y)) (range_with_len 0 c.outputs)
    ++ inverter (start_inverse_net c) (start_master_net c) ∷ []

abbrev pub first_transfer : ArrayCounts → ℕ → Transfer
first_transfer c p = record { clock = Phi1; from = sum_net c p; to = master_net c p }

abbrev pub second_transfer : ArrayCounts → ℕ → Transfer
second_transfer c p = record { clock = Phi2; from = inverse_net c p; to = stored_net c p }

abbrev pub array_transfers : ArrayCounts → List Transfer
array_transfers c =
    map (first_transfer c) (range_with_len 0 c.positions)
    ++ map (second_transfer c) (range_with_len 0 c.positions)
    ++ record { clock = Phi1; from = reset_net c; to = start_master_net c }
    ∷ record { clock = Phi2; from = start_inverse_net c; to = start_net c }
    ∷ []

abbrev pub array_part : ArrayCounts → PartTables
array_part c = record {
  nets = part_nets c;
  vdd = 0;
  gnd = ground_net c;
  phi1 = phi1_net c;
  phi2 = phi2_net c;
  gates = part_gates c;
  loads = map (λ (gate : NorGate). gate.out) (part_gates c);
  transfers = array_transfers c;
  ports = [];
}

-- So many left nets, the terms, the sums, and the part below. The net of term k is the k-th behind those of the part.
pub record RegisterTables : Type 0 where
  pub left : ℕ
  pub terms : List NorGate
  pub sums : List NorGate
  pub part : PartTables

-- the registers of the automaton under the specification's symbols
abbrev pub registers_of : Automaton → Tables → RegisterTables
registers_of nfa tables =
    let c = array_counts nfa tables in
    let going = steps (length tables.symbols) nfa in
    record {
      left = reset_net c;
      terms = term_gates c tables.symbols going (marked_states nfa);
      sums = sum_gates c nfa going (marked_states nfa);
      part = array_part c;
    }

-- ---- the netlist

abbrev pub plain : Role → ℕ → Pad
plain role net = record { name = plain_pad role; net = at net }

abbrev pub line_pad : ArrayCounts → List (List ℕ) → ℕ → Pad
line_pad c names i = record { name = named_pad Input (slice_index_or names i []); net = at (line_net c i) }

abbrev pub output_pad : ArrayCounts → List (List ℕ) → ℕ → Pad
output_pad c names y = record { name = named_pad Output (slice_index_or names y []); net = at (output_net c y) }

-- the supplies, the clocks, the reset, the lines, the outputs
abbrev pub array_pads : ArrayCounts → Tables → List Pad
array_pads c tables =
    plain Vdd 0 ∷ plain Gnd (ground_net c) ∷ plain Phi1 (phi1_net c) ∷ plain Phi2 (phi2_net c) ∷ plain Reset (reset_net c)
    ∷ (map (line_pad c tables.lines) (range_with_len 0 c.lines) ++ map (output_pad c tables.outputs) (range_with_len 0 c.outputs))

-- the nets that pads fix
abbrev pub fixed_nets : ArrayCounts → List ℕ
fixed_nets c = 0 ∷ ground_net c ∷ phi1_net c ∷ phi2_net c ∷ reset_net c ∷ map (line_net c) (range_with_len 0 c.lines)

-- what is stored while PHI1 is high, and the inverses of it
abbrev pub first_nets : ArrayCounts → List ℕ
first_nets c =
    map (master_net c) (range_with_len 0 c.positions) ++ start_master_net c ∷ []
    ++ map (inverse_net c) (range_with_len 0 c.positions) ++ start_inverse_net c ∷ []

-- what is stored while PHI2 is high, and then the planes
abbrev pub second_nets : ArrayCounts → ℕ → List ℕ
second_nets c terms =
    map (stored_net c) (range_with_len 0 c.positions) ++ start_net c ∷ []
    ++ map (complement_net c) (range_with_len 0 c.lines)
    ++ map (state_net c) (range_with_len 0 c.positions)
    ++ map (term_net c) (range_with_len 0 terms)
    ++ map (sum_net c) (range_with_len 0 c.positions)
    ++ map (shared_net c) (range_with_len 0 c.outputs)
    ++ map (output_net c) (range_with_len 0 c.outputs)

abbrev pub netlist_of : ArrayCounts → Tables → RegisterTables → Netlist
netlist_of c tables registers = record {
  nets = part_nets c + length registers.terms;
  gates = registers.terms ++ registers.sums ++ registers.part.gates;
  transfers = registers.part.transfers;
  pads = array_pads c tables;
  order1 = fixed_nets c ++ second_nets c (length registers.terms) ++ first_nets c;
  order2 = fixed_nets c ++ first_nets c ++ second_nets c (length registers.terms);
}

-- the netlist of the automaton's registers under the specification's symbols
abbrev pub register_netlist : Automaton → Tables → Netlist
register_netlist nfa tables = netlist_of (array_counts nfa tables) tables (registers_of nfa tables)
