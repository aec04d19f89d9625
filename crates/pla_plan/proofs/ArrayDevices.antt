-- The devices of an automaton's array are those of its registers' switch network.
use Rattle.std.specs.Prelude.{flat_map}
use Rattle.std.proofs.Common.{◌≡◌, ◌⊎◌, inl, inr, ℕ, ◌+◌, ◌<◌, ◌≤◌, List, [], ◌∷◌, ◌++◌, map, length, refl, sym, ap, ◌∙◌, append_assoc, arith, length-append}
use Rattle.std.specs.List.{AllByRecursion, range_with_len}
use Rattle.std.specs.List.Sorted.{IsPermutation}
use Rattle.std.proofs.lemmas.List.FromFn.{length-map-range_with_len}
use Rattle.std.proofs.lemmas.List.Concat.{flat_map-append}
use Rattle.std.proofs.lemmas.List.Sorted.{IsPermutation-trans, IsPermutation-append_right, IsPermutation-append_left, IsPermutation-append_comm, IsPermutation-sym}
use Rattle.rx_lang.specs.Tables.{Tables}
use Rattle.rx_lang.specs.Positions.{State, Step}
use Rattle.switch_net.specs.declared.network.Device.{Device}
use Rattle.switch_net.specs.declared.network.Device.TheVariants.{Load}
use Rattle.nor_net.specs.Netlist.{NorGate}
use Rattle.nor_net.specs.Part.{clocked_device}
use Rattle.nor_net.specs.SwitchForm.{at, load_at, pull_downs, transfer_device, devices_of}
use Rattle.nor_net.specs.declared.gate.Transfer.{Transfer}
use Rattle.position_nfa.specs.declared.array_nets.ArrayCounts.{ArrayCounts}
use Rattle.position_nfa.specs.Automaton.{Automaton}
use Rattle.position_nfa.specs.Registers.{AreFew, array_counts, array_pads, part_nets, ground_net, line_net, complement_net, state_net, stored_net, sum_net, master_net, inverse_net, shared_net, output_net, start_inverse_net, start_master_net, inverter, part_gates, first_transfer, second_transfer, array_transfers, array_part, steps, marked_states, step_gate, mark_gate, term_gates, sum_gate, shared_gate, sum_gates, register_netlist}
use Rattle.pla_plan.specs.ArrayOf.{array_of}
use Rattle.pla_plan.specs.PlaneModules.{loaded_gate, planes_devices}
use Rattle.pla_plan.proofs.Pieces.{each_append, each_range, each_weaker, each_across, Pairs, pairs_append, pairs_range}
use Rattle.pla_plan.proofs.ArrayPart.{gates_apart}
use Rattle.pla_plan.proofs.ArrayLoads.{load, same_list, loads_are, loaded_are}

-- maps that agree
pub same_map : {X Y : Type 0} (f g : X → Y) (xs : List X) → AllByRecursion (λ x. f x ≡ g x) xs → map f xs ≡ map g xs
same_map f g [] h = refl
same_map f g (x ∷ xs) h = ap (λ y. y ∷ map f xs) h.0 ∙ ap (λ l. g x ∷ l) (same_map f g xs h.1)

abbrev load_device : ℕ → Device
load_device net = Load (at net)

module _ (nfa : Automaton) (tables : Tables) (few : AreFew (array_counts nfa tables)) where
  abbrev c : ArrayCounts
  c = array_counts nfa tables

  abbrev going : List Step
  going = steps (length tables.symbols) nfa

  abbrev marked : List State
  marked = marked_states nfa

  abbrev terms : List NorGate
  terms = term_gates c tables.symbols going marked

  abbrev sums : List NorGate
  sums = sum_gates c nfa going marked

  abbrev lower : List NorGate
  lower = part_gates c

  abbrev Apart : NorGate → NorGate → Type 0
  Apart a b = a.out ≡ b.out → ⊥

  -- ---- outputs

  abbrev IsTermFrom : ℕ → ℕ → NorGate → Type 0
  IsTermFrom from to gate = (part_nets c + from ≤ gate.out) × (gate.out < part_nets c + to)

  step_outs : AllByRecursion (IsTermFrom 0 (length going)) (map (step_gate c tables.symbols going) (range_with_len 0 (length going)))
  step_outs = each_range (IsTermFrom 0 (length going)) (step_gate c tables.symbols going) 0 (length going) (λ k l lt. (omega arith, omega arith))

  mark_outs : AllByRecursion (IsTermFrom (length going) (length going + length marked)) (map (mark_gate c (length going) marked) (range_with_len 0 (length marked)))
  mark_outs =
      each_range (IsTermFrom (length going) (length going + length marked)) (mark_gate c (length going) marked) 0 (length marked)
      (λ k l lt. (omega arith, omega arith))

  term_outs : AllByRecursion (IsTermFrom 0 (length going + length marked)) terms
  term_outs =
      each_append (IsTermFrom 0 (length going + length marked)) (map (step_gate c tables.symbols going) (range_with_len 0 (length going)))
      (map (mark_gate c (length going) marked) (range_with_len 0 (length marked)))
      (each_weaker (IsTermFrom 0 (length going)) (IsTermFrom 0 (length going + length marked)) (λ gate h. let high = h.1 in (h.0, omega arith)) _ step_outs)
      (each_weaker (IsTermFrom (length going) (length going + length marked)) (IsTermFrom 0 (length going + length marked))
      (λ gate h. let low = h.0 in (omega arith, h.1)) _ mark_outs)

  terms_apart : Pairs Apart terms
  terms_apart =
      pairs_append Apart (map (step_gate c tables.symbols going) (range_with_len 0 (length going)))
      (map (mark_gate c (length going) marked) (range_with_len 0 (length marked)))
      (pairs_range Apart (step_gate c tables.symbols going) 0 (length going) (λ i j l m lt e. omega arith))
      (pairs_range Apart (mark_gate c (length going) marked) 0 (length marked) (λ i j l m lt e. omega arith))
      (each_across (IsTermFrom 0 (length going)) (IsTermFrom (length going) (length going + length marked)) Apart
      (λ a b h k e. let high = h.1 in let low = k.0 in omega arith) _ _ step_outs mark_outs)

  abbrev IsSum : NorGate → Type 0
  IsSum gate = (p : ℕ) × (p < c.positions) × (gate.out ≡ sum_net c p)

  abbrev IsShared : NorGate → Type 0
  IsShared gate = (y : ℕ) × (y < c.outputs) × (gate.out ≡ shared_net c y)

  sum_outs : AllByRecursion IsSum (map (sum_gate c nfa going) (range_with_len 0 c.positions))
  sum_outs = each_range IsSum (sum_gate c nfa going) 0 c.positions (λ p l lt. (p, omega arith, refl))

  shared_outs : AllByRecursion IsShared (map (shared_gate c nfa (length going) marked) (range_with_len 0 c.outputs))
  shared_outs = each_range IsShared (shared_gate c nfa (length going) marked) 0 c.outputs (λ y l lt. (y, omega arith, refl))

  sums_apart : Pairs Apart sums
  sums_apart =
      pairs_append Apart (map (sum_gate c nfa going) (range_with_len 0 c.positions)) (map (shared_gate c nfa (length going) marked) (range_with_len 0 c.outputs))
      (pairs_range Apart (sum_gate c nfa going) 0 c.positions (λ i j l m lt e. omega arith))
      (pairs_range Apart (shared_gate c nfa (length going) marked) 0 c.outputs (λ i j l m lt e. omega arith))
      (each_across IsSum IsShared Apart
      (λ a b h k e. let lt = h.1 in let is = h.2 in let known = k.2 in let p = h.0 in let y = k.0 in omega arith) _ _ sum_outs shared_outs)

  -- an output of the planes
  abbrev IsUpper : NorGate → Type 0
  IsUpper gate = (part_nets c ≤ gate.out) ⊎ (IsSum gate ⊎ IsShared gate)

  abbrev IsInner : NorGate → Type 0
  IsInner gate = gate.out < part_nets c

  sums_inner : AllByRecursion IsInner sums
  sums_inner =
      each_append IsInner (map (sum_gate c nfa going) (range_with_len 0 c.positions)) (map (shared_gate c nfa (length going) marked) (range_with_len 0 c.outputs))
      (each_weaker IsSum IsInner (λ gate h. let lt = h.1 in let is = h.2 in let p = h.0 in omega arith) _ sum_outs)
      (each_weaker IsShared IsInner (λ gate h. let lt = h.1 in let is = h.2 in let y = h.0 in omega arith) _ shared_outs)

  planes_apart : Pairs Apart (terms ++ sums)
  planes_apart =
      pairs_append Apart terms sums terms_apart sums_apart
      (each_across (IsTermFrom 0 (length going + length marked)) IsInner Apart (λ a b h k e. let low = h.0 in omega arith) terms sums term_outs sums_inner)

  upper_outs : AllByRecursion IsUpper (terms ++ sums)
  upper_outs =
      each_append IsUpper terms sums
      (each_weaker (IsTermFrom 0 (length going + length marked)) IsUpper (λ gate h. inl (let low = h.0 in omega arith)) terms term_outs)
      (each_append IsUpper (map (sum_gate c nfa going) (range_with_len 0 c.positions)) (map (shared_gate c nfa (length going) marked) (range_with_len 0 c.outputs))
      (each_weaker IsSum IsUpper (λ gate h. inr (inl h)) _ sum_outs)
      (each_weaker IsShared IsUpper (λ gate h. inr (inr h)) _ shared_outs))

  -- an output of the part
  pub record IsLower (gate : NorGate) : Type 0 where
    pub inner : IsInner gate
    pub no_sum : (p : ℕ) → p < c.positions → gate.out ≡ sum_net c p → ⊥
    pub no_shared : (y : ℕ) → y < c.outputs → gate.out ≡ shared_net c y → ⊥

  lower_outs : AllByRecursion IsLower lower
  lower_outs =
      each_append IsLower _ (inverter (start_inverse_net c) (start_master_net c) ∷ [])
      (each_append IsLower _ (map (λ y. inverter (output_net c y) (shared_net c y)) (range_with_len 0 c.outputs))
      (each_append IsLower _ (map (λ p. inverter (state_net c p) (stored_net c p)) (range_with_len 0 c.positions))
      (each_append IsLower (map (λ i. inverter (complement_net c i) (line_net c i)) (range_with_len 0 c.lines))
      (map (λ p. inverter (inverse_net c p) (master_net c p)) (range_with_len 0 c.positions))
      (each_range IsLower (λ i. inverter (complement_net c i) (line_net c i)) 0 c.lines
      (λ i l lt. record { inner = omega arith; no_sum = λ p m e. omega arith; no_shared = λ y m e. omega arith }))
      (each_range IsLower (λ p. inverter (inverse_net c p) (master_net c p)) 0 c.positions
      (λ p l lt. record { inner = omega arith; no_sum = λ q m e. omega arith; no_shared = λ y m e. omega arith })))
      (each_range IsLower (λ p. inverter (state_net c p) (stored_net c p)) 0 c.positions
      (λ p l lt. record { inner = omega arith; no_sum = λ q m e. omega arith; no_shared = λ y m e. omega arith })))
      (each_range IsLower (λ y. inverter (output_net c y) (shared_net c y)) 0 c.outputs
      (λ y l lt. record { inner = omega arith; no_sum = λ q m e. omega arith; no_shared = λ x m e. omega arith })))
      (record { inner = omega arith; no_sum = λ q m e. omega arith; no_shared = λ x m e. omega arith }, tt)

  upper_and_lower : (a b : NorGate) → IsUpper a → IsLower b → Apart a b
  upper_and_lower a b (inl h) k e = let inner = k.inner in omega arith
  upper_and_lower a b (inr (inl h)) k e = k.no_sum h.0 h.1 (sym e ∙ h.2)
  upper_and_lower a b (inr (inr h)) k e = k.no_shared h.0 h.1 (sym e ∙ h.2)

  abbrev all : List NorGate
  all = terms ++ sums ++ lower

  pub below : AllByRecursion (λ (gate : NorGate). gate.out < part_nets c + length terms) all
  below =
      let long = terms_long in
      each_append (λ (gate : NorGate). gate.out < part_nets c + length terms) (terms ++ sums) lower
      (each_append (λ (gate : NorGate). gate.out < part_nets c + length terms) terms sums
      (each_weaker (IsTermFrom 0 (length going + length marked)) (λ (gate : NorGate). gate.out < part_nets c + length terms)
      (λ gate h. let high = h.1 in omega arith) terms term_outs)
      (each_weaker IsInner (λ (gate : NorGate). gate.out < part_nets c + length terms) (λ gate h. omega arith) sums sums_inner))
      (each_weaker IsLower (λ (gate : NorGate). gate.out < part_nets c + length terms) (λ gate h. let inner = h.inner in omega arith) lower lower_outs)
    where
      terms_long : length terms ≡ length going + length marked
      terms_long = omega (arith, length-append {A = NorGate}, length-map-range_with_len {X = NorGate})

  all_apart : Pairs Apart all
  all_apart =
      pairs_append Apart (terms ++ sums) lower planes_apart (gates_apart c few)
      (each_across IsUpper IsLower Apart upper_and_lower (terms ++ sums) lower upper_outs lower_outs)

  -- ---- devices

  abbrev gnd : ℕ
  gnd = ground_net c

  abbrev moved : List Device
  moved = map (clocked_device (array_part c)) (array_transfers c)

  transfers_are : moved ≡ map (transfer_device (array_pads c tables)) (array_transfers c)
  transfers_are =
      same_map (clocked_device (array_part c)) (transfer_device (array_pads c tables)) (array_transfers c)
      (each_append Same (map (first_transfer c) (range_with_len 0 c.positions) ++ map (second_transfer c) (range_with_len 0 c.positions)) _
      (each_append Same (map (first_transfer c) (range_with_len 0 c.positions)) (map (second_transfer c) (range_with_len 0 c.positions))
      (each_range Same (first_transfer c) 0 c.positions (λ p l lt. refl)) (each_range Same (second_transfer c) 0 c.positions (λ p l lt. refl)))
      (refl, (refl, tt)))
    where
      Same : Transfer → Type 0
      Same transfer = clocked_device (array_part c) transfer ≡ transfer_device (array_pads c tables) transfer

  lower_loads : map (λ (net : ℕ). load_device net) (map (λ (gate : NorGate). gate.out) lower) ≡ map load lower
  lower_loads = by lower
    where
      by : (gates : List NorGate) → map (λ (net : ℕ). load_device net) (map (λ (gate : NorGate). gate.out) gates) ≡ map load gates
      by [] = refl
      by (gate ∷ gates) = ap (λ l. load gate ∷ l) (by gates)

  abbrev downs : List NorGate → List Device
  downs gates = flat_map (pull_downs gnd) gates

  abbrev loaded : List NorGate → List Device
  loaded gates = flat_map (loaded_gate gnd) gates

  abbrev lower_loaded : List Device
  lower_loaded = map load_device (map (λ (gate : NorGate). gate.out) lower)

  -- the gates of the part with their loads
  lower_are : IsPermutation (downs lower ++ lower_loaded) (loaded lower)
  lower_are =
      IsPermutation-trans (downs lower ++ lower_loaded) (lower_loaded ++ downs lower) (loaded lower)
      (IsPermutation-append_comm (downs lower) lower_loaded)
      (IsPermutation-trans (lower_loaded ++ downs lower) (map load lower ++ downs lower) (loaded lower)
      (same_list (lower_loaded ++ downs lower) (map load lower ++ downs lower) (ap (λ l. l ++ downs lower) lower_loads))
      (IsPermutation-sym (loaded lower) (map load lower ++ downs lower) (loaded_are gnd lower)))

  abbrev upper_loaded : List Device
  upper_loaded = loaded terms ++ loaded sums

  joined : upper_loaded ++ loaded lower ≡ loaded all
  joined =
      ap (λ l. l ++ loaded lower) (sym (flat_map-append (loaded_gate gnd) terms sums))
      ∙ sym (flat_map-append (loaded_gate gnd) (terms ++ sums) lower)

  abbrev net_loads : List Device
  net_loads = flat_map (load_at all) (range_with_len 0 (part_nets c + length terms))

  gates_are : IsPermutation (upper_loaded ++ (downs lower ++ lower_loaded)) (net_loads ++ downs all)
  gates_are =
      IsPermutation-trans (upper_loaded ++ (downs lower ++ lower_loaded)) (upper_loaded ++ loaded lower) (net_loads ++ downs all)
      (IsPermutation-append_right upper_loaded (downs lower ++ lower_loaded) (loaded lower) lower_are)
      (IsPermutation-trans (upper_loaded ++ loaded lower) (loaded all) (net_loads ++ downs all) (same_list (upper_loaded ++ loaded lower) (loaded all) joined)
      (IsPermutation-trans (loaded all) (map load all ++ downs all) (net_loads ++ downs all) (loaded_are gnd all)
      (IsPermutation-append_left (downs all) (map load all) net_loads
      (IsPermutation-sym net_loads (map load all) (loads_are all (part_nets c + length terms) all_apart below)))))

  -- The devices of the array are those of the registers' switch network.
  pub devices_are : IsPermutation (planes_devices (array_of nfa tables)) (devices_of (register_netlist nfa tables))
  devices_are =
      let parts = downs lower ++ lower_loaded in
      let given = map (transfer_device (array_pads c tables)) (array_transfers c) in
      IsPermutation-trans (upper_loaded ++ (parts ++ moved)) ((upper_loaded ++ parts) ++ moved) ((net_loads ++ downs all) ++ given)
      (same_list (upper_loaded ++ (parts ++ moved)) ((upper_loaded ++ parts) ++ moved) (sym (append_assoc upper_loaded parts moved)))
      (IsPermutation-trans ((upper_loaded ++ parts) ++ moved) ((net_loads ++ downs all) ++ moved) ((net_loads ++ downs all) ++ given)
      (IsPermutation-append_left moved (upper_loaded ++ parts) (net_loads ++ downs all) gates_are)
      (same_list ((net_loads ++ downs all) ++ moved) ((net_loads ++ downs all) ++ given) (ap (λ l. (net_loads ++ downs all) ++ l) transfers_are)))
