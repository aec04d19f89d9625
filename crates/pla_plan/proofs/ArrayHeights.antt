-- How many rows the part of an automaton's array needs: its loads are those of its gates.
use Rattle.std.proofs.Common.{◌≡◌, ℕ, ◌+◌, ◌*◌, ◌≤◌, ◌==◌, ◌||◌, Bool, true, false, if◌then◌else◌, List, [], ◌∷◌, ◌++◌, map, length, refl, sym, ap, ◌∙◌, arith, append_assoc, length-append}
use Rattle.std.specs.List.{sum_by}
use Rattle.std.proofs.lemmas.Bool.{eq-eqb}
use Rattle.std.proofs.lemmas.List.Sums.{sum_by-cons}
use Rattle.std.proofs.lemmas.List.FromFn.{length-map-range_with_len}
use Rattle.nor_net.specs.Netlist.{NorGate}
use Rattle.nor_net.specs.Evaluation.{is_output}
use Rattle.nor_net.specs.Part.{PartTables}
use Rattle.nor_net.specs.declared.gate.Transfer.{Transfer}
use Rattle.gate_matrix.specs.PartRows.{has_load, height_of_gates, height_of_load, height_of_part}
use Rattle.position_nfa.specs.declared.array_nets.ArrayCounts.{ArrayCounts}
use Rattle.position_nfa.specs.Registers.{part_gates, array_part, array_transfers}

five_or_three : (b : Bool) → (if b then 5 else 3) ≤ 5
five_or_three true = omega arith
five_or_three false = omega arith

gates_bound : (part : PartTables) (earlier gates : List NorGate) → height_of_gates part earlier gates ≤ 5 * length gates
gates_bound part earlier [] = omega arith
gates_bound part earlier (gate ∷ gates) =
    let one = five_or_three (has_load part earlier gate) in
    let rest = gates_bound part (earlier ++ gate ∷ []) gates in
    omega arith

or_here : (b d : Bool) → b ≡ true → (b || d) ≡ true
or_here true d e = cc
or_here false d e = absurd (cc)

or_there : (b d : Bool) → d ≡ true → (b || d) ≡ true
or_there true d e = cc
or_there false d e = e

has_output : (before : List NorGate) (gate : NorGate) (gates : List NorGate) → is_output (before ++ gate ∷ gates) gate.out ≡ true
has_output [] gate gates = or_here (gate.out == gate.out) (is_output gates gate.out) (eq-eqb gate.out gate.out refl)
has_output (first ∷ before) gate gates =
    or_there (first.out == gate.out) (is_output (before ++ gate ∷ gates) gate.out) (has_output before gate gates)

no_rows : (b : Bool) → b ≡ true → ◌≡◌ {A = ℕ} (if b then 0 else 3) 0
no_rows true e = refl
no_rows false e = absurd (cc)

no_loads : (part : PartTables) (before gates : List NorGate) → part.gates ≡ before ++ gates → sum_by (height_of_load part) (map (λ (gate : NorGate). gate.out) gates) ≡ 0
no_loads part before [] e = refl
no_loads part before (gate ∷ gates) e =
    let here : height_of_load part gate.out ≡ 0 =
    no_rows (is_output part.gates gate.out) (ap (λ (all : List NorGate). is_output all gate.out) e ∙ has_output before gate gates) in
    let rest = no_loads part (before ++ gate ∷ []) gates (e ∙ sym (append_assoc before (gate ∷ []) gates)) in
    sum_by-cons (height_of_load part) gate.out (map (λ (one : NorGate). one.out) gates) ∙ omega (arith, here, rest)

module _ (c : ArrayCounts) where
  pub gates_long : length (part_gates c) ≡ c.lines + 2 * c.positions + c.outputs + 1
  gates_long =
      omega (arith, length-append {A = NorGate}, length-map-range_with_len {X = NorGate})

  pub transfers_long : length (array_transfers c) ≡ 2 * c.positions + 2
  transfers_long = omega (arith, length-append {A = Transfer}, length-map-range_with_len {X = Transfer})

  pub part_height : height_of_part (array_part c) ≤ 16 * c.positions + 5 * (c.lines + c.outputs) + 11
  part_height =
      let gates = gates_bound (array_part c) [] (part_gates c) in
      let loads = no_loads (array_part c) [] (part_gates c) refl in
      let many = gates_long in
      let moved = transfers_long in
      omega arith
