-- The part below the planes of an automaton's array is a part of a netlist.
use Rattle.std.proofs.Common.{◌≡◌, ℕ, ◌+◌, ◌*◌, ◌<◌, ◌≤◌, inl, inr, List, [], ◌∷◌, ◌++◌, map, refl, arith}
use Rattle.std.specs.List.{AllByRecursion, range_with_len}
use Rattle.std.proofs.lemmas.List.{length-map}
use Rattle.std.proofs.lemmas.List.Elements.{All-from_recursion}
use Rattle.nor_net.specs.Netlist.{NorGate}
use Rattle.nor_net.specs.Part.{PartTables, IsPart, IsPartGate, IsPartTransfer, supply_nets}
use Rattle.nor_net.specs.declared.part.PartPort.{PartPort}
use Rattle.position_nfa.specs.declared.array_nets.ArrayCounts.{ArrayCounts}
use Rattle.position_nfa.specs.Registers.{AreFew, line_net, complement_net, state_net, master_net, inverse_net, stored_net, shared_net, output_net, start_master_net, start_inverse_net, inverter, part_gates, first_transfer, second_transfer, array_transfers, array_part}
use Rattle.pla_plan.proofs.Pieces.{each_append, each_range, each_weaker, each_across, each_map, Pairs, all_pairs, pairs_append, pairs_range, pairs_map}
use Rattle.pla_plan.proofs.ArrayHeights.{gates_long, transfers_long}

module _ (c : ArrayCounts) (few : AreFew c) where
  abbrev part : PartTables
  part = array_part c

  abbrev n : ℕ
  n = part.nets

  abbrev Fine : NorGate → Type 0
  Fine gate = IsPartGate n gate

  abbrev Apart : NorGate → NorGate → Type 0
  Apart a b = a.out ≡ b.out → ⊥

  abbrev numbers : ℕ → List ℕ
  numbers count = range_with_len 0 count

  abbrev complements : List NorGate
  complements = map (λ i. inverter (complement_net c i) (line_net c i)) (numbers c.lines)

  abbrev inverses : List NorGate
  inverses = map (λ p. inverter (inverse_net c p) (master_net c p)) (numbers c.positions)

  abbrev states : List NorGate
  states = map (λ p. inverter (state_net c p) (stored_net c p)) (numbers c.positions)

  abbrev outputs : List NorGate
  outputs = map (λ y. inverter (output_net c y) (shared_net c y)) (numbers c.outputs)

  abbrev begin : List NorGate
  begin = inverter (start_inverse_net c) (start_master_net c) ∷ []

  inverter_fine : (out input : ℕ) → out < n → input < n → Fine (inverter out input)
  inverter_fine out input l m = record {
    out_below = l;
    inputs_below = All-from_recursion (λ net. net < n) (input ∷ []) (m, tt);
    distinct = all_pairs (λ a b. a ≡ b → ⊥) (input ∷ []) (tt, tt);
  }

  gates_fine : AllByRecursion Fine (part_gates c)
  gates_fine =
      each_append Fine (complements ++ inverses ++ states ++ outputs) begin
      (each_append Fine (complements ++ inverses ++ states) outputs
      (each_append Fine (complements ++ inverses) states
      (each_append Fine complements inverses
      (each_range Fine (λ i. inverter (complement_net c i) (line_net c i)) 0 c.lines
      (λ i l lt. inverter_fine (complement_net c i) (line_net c i) (omega arith) (omega arith)))
      (each_range Fine (λ p. inverter (inverse_net c p) (master_net c p)) 0 c.positions
      (λ p l lt. inverter_fine (inverse_net c p) (master_net c p) (omega arith) (omega arith))))
      (each_range Fine (λ p. inverter (state_net c p) (stored_net c p)) 0 c.positions
      (λ p l lt. inverter_fine (state_net c p) (stored_net c p) (omega arith) (omega arith))))
      (each_range Fine (λ y. inverter (output_net c y) (shared_net c y)) 0 c.outputs
      (λ y l lt. inverter_fine (output_net c y) (shared_net c y) (omega arith) (omega arith))))
      (inverter_fine (start_inverse_net c) (start_master_net c) (omega arith) (omega arith), tt)

  -- ---- no output twice

  abbrev Within : ℕ → ℕ → NorGate → Type 0
  Within from to gate = (from ≤ gate.out) × (gate.out < to)

  are_complements : AllByRecursion (Within 0 (1 + 2 * c.lines)) complements
  are_complements = each_range (Within 0 (1 + 2 * c.lines)) (λ i. inverter (complement_net c i) (line_net c i)) 0 c.lines (λ i l lt. (omega arith, omega arith))

  are_inverses : AllByRecursion (Within (4 + 2 * c.lines + c.positions) (4 + 2 * c.lines + 5 * c.positions)) inverses
  are_inverses =
      each_range (Within (4 + 2 * c.lines + c.positions) (4 + 2 * c.lines + 5 * c.positions)) (λ p. inverter (inverse_net c p) (master_net c p)) 0 c.positions
      (λ p l lt. (omega arith, omega arith))

  are_states : AllByRecursion (Within (1 + 2 * c.lines) (1 + 2 * c.lines + c.positions)) states
  are_states =
      each_range (Within (1 + 2 * c.lines) (1 + 2 * c.lines + c.positions)) (λ p. inverter (state_net c p) (stored_net c p)) 0 c.positions
      (λ p l lt. (omega arith, omega arith))

  are_outputs : AllByRecursion (Within (4 + 2 * c.lines + 5 * c.positions) (4 + 2 * c.lines + 5 * c.positions + 2 * c.outputs)) outputs
  are_outputs =
      each_range (Within (4 + 2 * c.lines + 5 * c.positions) (4 + 2 * c.lines + 5 * c.positions + 2 * c.outputs))
      (λ y. inverter (output_net c y) (shared_net c y)) 0 c.outputs (λ y l lt. (omega arith, omega arith))

  -- no state's complement
  abbrev IsNoState : NorGate → Type 0
  IsNoState gate = 1 + 2 * c.lines ≤ gate.out → gate.out < 1 + 2 * c.lines + c.positions → ⊥

  first_two : AllByRecursion IsNoState (complements ++ inverses)
  first_two =
      each_append IsNoState complements inverses
      (each_weaker (Within 0 (1 + 2 * c.lines)) IsNoState (λ gate h l m. let high = h.1 in omega arith) complements are_complements)
      (each_weaker (Within (4 + 2 * c.lines + c.positions) (4 + 2 * c.lines + 5 * c.positions)) IsNoState (λ gate h l m. let low = h.0 in omega arith) inverses
      are_inverses)

  abbrev IsInner : NorGate → Type 0
  IsInner gate = gate.out < 4 + 2 * c.lines + 5 * c.positions

  first_three : AllByRecursion IsInner (complements ++ inverses ++ states)
  first_three =
      each_append IsInner (complements ++ inverses) states
      (each_append IsInner complements inverses
      (each_weaker (Within 0 (1 + 2 * c.lines)) IsInner (λ gate h. let high = h.1 in omega arith) complements are_complements)
      (each_weaker (Within (4 + 2 * c.lines + c.positions) (4 + 2 * c.lines + 5 * c.positions)) IsInner (λ gate h. h.1) inverses are_inverses))
      (each_weaker (Within (1 + 2 * c.lines) (1 + 2 * c.lines + c.positions)) IsInner (λ gate h. let high = h.1 in omega arith) states are_states)

  abbrev IsEarly : NorGate → Type 0
  IsEarly gate = gate.out < 4 + 2 * c.lines + 5 * c.positions + 2 * c.outputs

  first_four : AllByRecursion IsEarly (complements ++ inverses ++ states ++ outputs)
  first_four =
      each_append IsEarly (complements ++ inverses ++ states) outputs
      (each_weaker IsInner IsEarly (λ gate h. omega arith) (complements ++ inverses ++ states) first_three)
      (each_weaker (Within (4 + 2 * c.lines + 5 * c.positions) (4 + 2 * c.lines + 5 * c.positions + 2 * c.outputs)) IsEarly (λ gate h. h.1) outputs are_outputs)

  pub gates_apart : Pairs Apart (part_gates c)
  gates_apart =
      pairs_append Apart (complements ++ inverses ++ states ++ outputs) begin
      (pairs_append Apart (complements ++ inverses ++ states) outputs
      (pairs_append Apart (complements ++ inverses) states
      (pairs_append Apart complements inverses
      (pairs_range Apart (λ i. inverter (complement_net c i) (line_net c i)) 0 c.lines (λ i j l m lt e. omega arith))
      (pairs_range Apart (λ p. inverter (inverse_net c p) (master_net c p)) 0 c.positions (λ i j l m lt e. omega arith))
      (each_across (Within 0 (1 + 2 * c.lines)) (Within (4 + 2 * c.lines + c.positions) (4 + 2 * c.lines + 5 * c.positions)) Apart
      (λ a b h k e. let high = h.1 in let low = k.0 in omega arith) complements inverses are_complements are_inverses))
      (pairs_range Apart (λ p. inverter (state_net c p) (stored_net c p)) 0 c.positions (λ i j l m lt e. omega arith))
      (each_across IsNoState (Within (1 + 2 * c.lines) (1 + 2 * c.lines + c.positions)) Apart
      (λ a b h k e. let low = k.0 in let high = k.1 in h (omega arith) (omega arith)) (complements ++ inverses) states first_two are_states))
      (pairs_range Apart (λ y. inverter (output_net c y) (shared_net c y)) 0 c.outputs (λ i j l m lt e. omega arith))
      (each_across IsInner (Within (4 + 2 * c.lines + 5 * c.positions) (4 + 2 * c.lines + 5 * c.positions + 2 * c.outputs)) Apart
      (λ a b h k e. let low = k.0 in omega arith) (complements ++ inverses ++ states) outputs first_three are_outputs))
      (tt, tt)
      (each_weaker IsEarly (λ a. AllByRecursion (Apart a) begin) (λ a h. (λ e. omega arith, tt)) (complements ++ inverses ++ states ++ outputs) first_four)

  -- ---- transfers

  transfers_fine : AllByRecursion (IsPartTransfer n) (array_transfers c)
  transfers_fine =
      each_append (IsPartTransfer n) (map (first_transfer c) (numbers c.positions) ++ map (second_transfer c) (numbers c.positions)) _
      (each_append (IsPartTransfer n) (map (first_transfer c) (numbers c.positions)) (map (second_transfer c) (numbers c.positions))
      (each_range (IsPartTransfer n) (first_transfer c) 0 c.positions
      (λ p l lt. record { clocked = inl refl; from_below = omega arith; to_below = omega arith }))
      (each_range (IsPartTransfer n) (second_transfer c) 0 c.positions
      (λ p l lt. record { clocked = inr refl; from_below = omega arith; to_below = omega arith }))) (
        record { clocked = inl refl; from_below = omega arith; to_below = omega arith },
        (record { clocked = inr refl; from_below = omega arith; to_below = omega arith }, tt),
      )

  -- ---- all of it

  pub is_part : IsPart part
  is_part =
      let gates = gates_long c in
      let moved = transfers_long c in
      let loads = length-map (part_gates c) (λ (gate : NorGate). gate.out) in
      record {
        few_nets = omega arith;
        few_gates = omega arith;
        few_loads = omega arith;
        few_transfers = omega arith;
        few_ports = omega arith;
        supplies_below = All-from_recursion (λ net. net < n) (supply_nets part) (omega arith, (omega arith, (omega arith, (omega arith, tt))));
        supplies_differ = all_pairs (λ a b. a ≡ b → ⊥) (supply_nets part) (
          (λ e. omega arith, (λ e. omega arith, (λ e. omega arith, tt))),
          ((λ e. omega arith, (λ e. omega arith, tt)), ((λ e. omega arith, tt), (tt, tt))),
        );
        gates = All-from_recursion Fine (part_gates c) gates_fine;
        loads_below = All-from_recursion (λ net. net < n) part.loads
            (each_map (λ net. net < n) (λ (gate : NorGate). gate.out) (part_gates c)
            (each_weaker Fine (λ (gate : NorGate). gate.out < n) (λ gate h. h.out_below) (part_gates c) gates_fine));
        loads_once = all_pairs (λ a b. a ≡ b → ⊥) part.loads (pairs_map (λ (a b : ℕ). a ≡ b → ⊥) (λ (gate : NorGate). gate.out) (part_gates c) gates_apart);
        transfers = All-from_recursion (IsPartTransfer n) (array_transfers c) transfers_fine;
        ports = All-from_recursion (λ (port : PartPort). port.net < n) [] tt;
      }
