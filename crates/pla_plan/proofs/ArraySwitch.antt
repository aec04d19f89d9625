-- The switch network of an automaton's registers is a network.
use Rattle.std.specs.Prelude.{flat_map}
use Rattle.std.proofs.Common.{ℕ, ◌+◌, ◌<◌, ◌≤◌, Bool, true, false, if◌then◌else◌, List, [], ◌∷◌, ◌++◌, map, length, All, refl, arith}
use Rattle.std.specs.List.{AllByRecursion, range_with_len}
use Rattle.std.proofs.lemmas.List.Elements.{All-from_recursion, recursion_from_All}
use Rattle.rx_text.specs.declared.pad_name.Role.TheVariants.{Vdd, Gnd, Phi1, Phi2, Reset}
use Rattle.rx_lang.specs.Tables.{Tables}
use Rattle.switch_net.specs.ClockedLogic.{NamesBelow}
use Rattle.switch_net.specs.Validity.{AreDistinct, IsNetwork}
use Rattle.switch_net.specs.declared.network.Pad.{Pad}
use Rattle.switch_net.specs.declared.network.Device.TheVariants.{Load}
use Rattle.nor_net.specs.Netlist.{NorGate}
use Rattle.nor_net.specs.Evaluation.{is_output}
use Rattle.nor_net.specs.Part.{IsPartGate}
use Rattle.nor_net.specs.SwitchForm.{at, load_at, pull_downs, transfer_device, switch_form, devices_of}
use Rattle.nor_net.specs.declared.gate.Transfer.{Transfer}
use Rattle.position_nfa.specs.declared.array_nets.ArrayCounts.{ArrayCounts}
use Rattle.position_nfa.specs.Automaton.{Automaton}
use Rattle.position_nfa.specs.Registers.{AreFew, array_counts, array_pads, part_nets, ground_net, reset_net, phi1_net, phi2_net, plain, first_transfer, second_transfer, array_transfers, register_netlist}
use Rattle.pla_plan.specs.Planes.{PlaneTables}
use Rattle.pla_plan.specs.Fits.{IsArray, IsPlaneGate}
use Rattle.pla_plan.specs.ArrayOf.{array_of}
use Rattle.pla_plan.proofs.Pieces.{each_append, each_range, each_piece, each_map, each_weaker, Pairs, all_pairs}
use Rattle.pla_plan.proofs.ArrayPads.{pads_below}
use Rattle.pla_plan.proofs.ArrayDevices.{below}

-- the inputs are below the number
abbrev HasInputs : ℕ → NorGate → Type 0
HasInputs n gate = AllByRecursion (λ net. net < n) gate.inputs

one_load : (n net : ℕ) (b : Bool) → net < n → AllByRecursion (NamesBelow n) (if b then Load (at net) ∷ [] else [])
one_load n net true lt = (lt, tt)
one_load n net false lt = tt

gates_below : (n low : ℕ) → low < n → (gates : List NorGate) → AllByRecursion (λ (gate : NorGate). gate.out < n) gates → AllByRecursion (HasInputs n) gates
    → AllByRecursion (NamesBelow n) (flat_map (pull_downs low) gates)
gates_below n low lt [] h k = tt
gates_below n low lt (gate ∷ gates) h k =
    each_append (NamesBelow n) (pull_downs low gate) (flat_map (pull_downs low) gates)
    (inputs_below gate.inputs k.0) (gates_below n low lt gates h.1 k.1)
  where
    inputs_below : (inputs : List ℕ) → AllByRecursion (λ net. net < n) inputs → AllByRecursion (NamesBelow n) (pull_downs low (record { out = gate.out; inputs = inputs }))
    inputs_below [] g = tt
    inputs_below (input ∷ inputs) g = ((g.0, h.0, lt), inputs_below inputs g.1)

module _ (nfa : Automaton) (tables : Tables) (few : AreFew (array_counts nfa tables)) (array : IsArray (array_of nfa tables))
    (differ : Pairs AreDistinct (array_pads (array_counts nfa tables) tables)) where
  abbrev c : ArrayCounts
  c = array_counts nfa tables

  abbrev planes : PlaneTables
  planes = array_of nfa tables

  abbrev n : ℕ
  n = part_nets c + length planes.terms

  plane_inputs : (from to : ℕ) → to ≤ n → (gates : List NorGate) → All (IsPlaneGate from to) gates → AllByRecursion (HasInputs n) gates
  plane_inputs from to le gates h =
      each_weaker (IsPlaneGate from to) (HasInputs n)
      (λ gate g. each_weaker (λ net. (from ≤ net) × (net < to)) (λ net. net < n) (λ net k. let high = k.1 in omega arith) gate.inputs
      (recursion_from_All (λ net. (from ≤ net) × (net < to)) gate.inputs g.inputs)) gates (recursion_from_All (IsPlaneGate from to) gates h)

  part_inputs : AllByRecursion (HasInputs n) planes.part.gates
  part_inputs =
      each_weaker (IsPartGate planes.part.nets) (HasInputs n)
      (λ gate g. each_weaker (λ net. net < planes.part.nets) (λ net. net < n) (λ net k. omega arith) gate.inputs
      (recursion_from_All (λ net. net < planes.part.nets) gate.inputs g.inputs_below)) planes.part.gates
      (recursion_from_All (IsPartGate planes.part.nets) planes.part.gates array.part.gates)

  all_inputs : AllByRecursion (HasInputs n) (planes.terms ++ planes.sums ++ planes.part.gates)
  all_inputs =
      each_append (HasInputs n) (planes.terms ++ planes.sums) planes.part.gates
      (each_append (HasInputs n) planes.terms planes.sums (plane_inputs 1 (planes.left + 1) (omega arith) planes.terms array.terms)
      (plane_inputs planes.part.nets (planes.part.nets + length planes.terms) (omega arith) planes.sums array.sums)) part_inputs

  abbrev moves : Transfer → Type 0
  moves transfer = NamesBelow n (transfer_device (array_pads c tables) transfer)

  all_moves : AllByRecursion moves (array_transfers c)
  all_moves =
      each_append moves (map (first_transfer c) (range_with_len 0 c.positions) ++ map (second_transfer c) (range_with_len 0 c.positions)) _
      (each_append moves (map (first_transfer c) (range_with_len 0 c.positions)) (map (second_transfer c) (range_with_len 0 c.positions))
      (each_range moves (first_transfer c) 0 c.positions (λ p l lt. (omega arith, omega arith, omega arith)))
      (each_range moves (second_transfer c) 0 c.positions (λ p l lt. (omega arith, omega arith, omega arith))))
      ((omega arith, omega arith, omega arith), ((omega arith, omega arith, omega arith), tt))

  devices_below : AllByRecursion (NamesBelow n) (devices_of (register_netlist nfa tables))
  devices_below =
      let gates = planes.terms ++ planes.sums ++ planes.part.gates in
      let loads = flat_map (load_at gates) (range_with_len 0 n) in
      let downs = flat_map (pull_downs (ground_net c)) gates in
      let moved = map (transfer_device (array_pads c tables)) (array_transfers c) in
      each_append (NamesBelow n) (loads ++ downs) moved
      (each_append (NamesBelow n) loads downs
      (each_piece (NamesBelow n) (load_at gates) 0 n (λ k l lt. one_load n k (is_output gates k) (omega arith)))
      (gates_below n (ground_net c) (omega arith) gates (below nfa tables few) all_inputs))
      (each_map (NamesBelow n) (transfer_device (array_pads c tables)) (array_transfers c) all_moves)

  pub is_network : IsNetwork (switch_form (register_netlist nfa tables))
  is_network = record {
    pads_below = All-from_recursion (λ (pad : Pad). pad.net.0 < n) (array_pads c tables) (pads_below c tables (length planes.terms));
    devices_below = All-from_recursion (NamesBelow n) (devices_of (register_netlist nfa tables)) devices_below;
    distinct = all_pairs AreDistinct (array_pads c tables) differ;
    vdd = (0, plain Vdd 0, omega arith, refl, refl);
    gnd = (1, plain Gnd (ground_net c), omega arith, refl, refl);
    phi1 = (2, plain Phi1 (phi1_net c), omega arith, refl, refl);
    phi2 = (3, plain Phi2 (phi2_net c), omega arith, refl, refl);
    reset = (4, plain Reset (reset_net c), omega arith, refl, refl);
  }
