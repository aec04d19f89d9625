-- The rows in which a part of a netlist is drawn, and how many there are.
use Rattle.std.specs.Prelude.{ℕ, ◌+◌, ◌*◌, ◌&&◌, ◌==◌, not, Bool, if◌then◌else◌, List, [], ◌∷◌, ◌++◌, length, flat_map, sum_by}
use Rattle.std.specs.List.{list_any}
use Rattle.nor_net.specs.Netlist.{NorGate}
use Rattle.nor_net.specs.Evaluation.{is_output}
use Rattle.nor_net.specs.Part.{PartTables, clock_net}
use Rattle.nor_net.specs.declared.gate.Transfer.{Transfer}
use Rattle.gate_matrix.specs.Rows.{MatrixRow, load_rows, gate_rows, device_rows}

-- the load of the net is in the part, and none of these gates has this output
abbrev pub is_open : PartTables → List NorGate → ℕ → Bool
is_open part earlier net = list_any (λ one. one == net) part.loads && not (is_output earlier net)

-- the gate is the first of its output, behind these, and the output's load is in the part
abbrev pub has_load : PartTables → List NorGate → NorGate → Bool
has_load part earlier gate = is_open part earlier gate.out

-- the rows of a gate, with its load or without it
abbrev pub rows_with : PartTables → Bool → NorGate → List MatrixRow
rows_with part loaded gate =
    if loaded then gate_rows part.vdd part.gnd gate.out gate.inputs
    else device_rows gate.out gate.inputs part.gnd

-- it has its load where that is in the part and no gate before has it
abbrev pub rows_of_gate : PartTables → List NorGate → NorGate → List MatrixRow
rows_of_gate part earlier gate = rows_with part (has_load part earlier gate) gate

-- the rows of gates in order, behind these
abbrev pub rows_of_gates : PartTables → List NorGate → List NorGate → List MatrixRow
rows_of_gates part earlier [] = []
rows_of_gates part earlier (gate ∷ gates) = rows_of_gate part earlier gate ++ rows_of_gates part (earlier ++ gate ∷ []) gates

-- the rows of a load that no gate has
abbrev pub rows_of_load : PartTables → ℕ → List MatrixRow
rows_of_load part net = if is_output part.gates net then [] else load_rows part.vdd net []

-- the rows of a transfer, whose device the clock gates
abbrev pub rows_of_transfer : PartTables → Transfer → List MatrixRow
rows_of_transfer part transfer = device_rows transfer.from (clock_net part transfer.clock ∷ []) transfer.to

-- the gates come first, then the loads that no gate has, then the transfers
abbrev pub rows_of_part : PartTables → List MatrixRow
rows_of_part part = rows_of_gates part [] part.gates ++ flat_map (rows_of_load part) part.loads ++ flat_map (rows_of_transfer part) part.transfers

-- five rows for a gate with its load, three for another
abbrev pub height_of_gate : PartTables → List NorGate → NorGate → ℕ
height_of_gate part earlier gate = if has_load part earlier gate then 5 else 3

abbrev pub height_of_gates : PartTables → List NorGate → List NorGate → ℕ
height_of_gates part earlier [] = 0
height_of_gates part earlier (gate ∷ gates) = height_of_gate part earlier gate + height_of_gates part (earlier ++ gate ∷ []) gates

-- three rows for a load that no gate has
abbrev pub height_of_load : PartTables → ℕ → ℕ
height_of_load part net = if is_output part.gates net then 0 else 3

-- Three rows stand for each transfer.
abbrev pub height_of_part : PartTables → ℕ
height_of_part part = height_of_gates part [] part.gates + sum_by (height_of_load part) part.loads + 3 * length part.transfers

-- two columns for each net, and two for loads
abbrev pub width_of_part : PartTables → ℕ
width_of_part part = 2 * part.nets + 2
