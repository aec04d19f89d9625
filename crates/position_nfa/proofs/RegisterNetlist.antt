-- The registers are a netlist, and what lies below the planes is a part.
use Rattle.std.proofs.Common.{◌≡◌, ◌≢◌, ◌⊎◌, inl, inr, ℕ, zero, suc, ◌+◌, ◌-◌, ◌*◌, ◌<◌, ◌≤◌, ◌^◌, ◌==◌, Bool, true, false, List, [], ◌∷◌, ◌++◌, map, length, slice_index_or, All, AllPairs, refl, ap, sym, subst, ◌∙◌, arith, length-append, eqb-true, Contains}
use Rattle.std.specs.List.{AllByRecursion, range_with_len}
use Rattle.std.proofs.lemmas.List.{get_or_append_left, get_or-append_right, map-append, length-map}
use Rattle.std.proofs.lemmas.List.FromFn.{length-map-range_with_len}
use Rattle.std.proofs.lemmas.List.Elements.{All-from_recursion, recursion_from_All}
use Rattle.std.proofs.lemmas.List.Folds.{Any-from_list_any}
use Rattle.rx_text.specs.declared.pad_name.Role.{Role}
use Rattle.rx_text.specs.declared.pad_name.Role.TheVariants.{Vdd, Gnd, Phi1, Phi2, Reset, Input}
use Rattle.rx_lang.specs.Tables.{Tables, IsSpecification}
use Rattle.rx_lang.specs.Positions.{State, Step}
use Rattle.switch_net.specs.ClockedLogic.{is_fixed}
use Rattle.switch_net.specs.Validity.{AreDistinct}
use Rattle.switch_net.specs.declared.network.Pad.{Pad}
use Rattle.nor_net.specs.Netlist.{NorGate, Netlist, IsOutput, IsData, IsGate, IsTransfer, IsOrder, IsNetlist, place}
use Rattle.nor_net.specs.Evaluation.{is_output}
use Rattle.nor_net.specs.Part.{IsPart, supply_nets, IsPartGate, IsPartTransfer}
use Rattle.nor_net.specs.declared.gate.Transfer.{Transfer}
use Rattle.position_nfa.specs.declared.array_nets.ArrayCounts.{ArrayCounts}
use Rattle.position_nfa.specs.Automaton.{Automaton, IsAutomaton}
use Rattle.position_nfa.specs.Registers.{AreFew, line_net, complement_net, state_net, start_net, reset_net, ground_net, master_net, sum_net, inverse_net, stored_net, shared_net, output_net, phi1_net, phi2_net, start_master_net, start_inverse_net, part_nets, inverter, part_gates, first_transfer, second_transfer, array_transfers, array_part, plain, line_pad, output_pad, array_pads, registers_of, register_netlist, fixed_nets, first_nets, second_nets}
use Rattle.position_nfa.proofs.Ranges.{Pairs, all_pairs, each_append, each_range, each_weaker, pairs_append, pairs_range}
use Rattle.position_nfa.proofs.Banks.{Bank, Slot, total, is_slot, IsOf, precedes, ordered, slots_differ, below_total}
use Rattle.position_nfa.proofs.Slots.{is_off, slot_off}
use Rattle.position_nfa.proofs.ArraySlots as slots
use Rattle.position_nfa.proofs.ArraySlots.{slots1, slots2, fixed_slots, vdd, ground, phi1, phi2, reset, line, complement, state, begin, master, sum, inverse, stored, shared, output, begin_master, begin_inverse, term}
use Rattle.position_nfa.proofs.ArrayGates as array
use Rattle.position_nfa.proofs.ArrayGates.{Stands, Feeds, kept_slots}
use Rattle.position_nfa.proofs.ArrayOuts as outs
use Rattle.position_nfa.proofs.Nors.{IsNor, pairs_by}
use Rattle.position_nfa.proofs.ArrayPads as pads

is_output_of : (gates : List NorGate) (net : ℕ) → is_output gates net ≡ true → IsOutput gates net
is_output_of gates net e =
    let some = Any-from_list_any (λ (g : NorGate). g.out == net) gates e in
    (some.0, some.1, some.2, some.3, eqb-true some.1.out net some.4)

pairs_first : (xs ys : List (List ℕ)) → AllPairs (λ (a b : List ℕ). a ≢ b) (xs ++ ys) → AllPairs (λ (a b : List ℕ). a ≢ b) xs
pairs_first xs ys h i j d l lt e =
    h i j d l (omega (arith, length-append xs ys, lt)) (get_or_append_left xs ys d i (omega (arith, l, lt)) ∙ e ∙ sym (get_or_append_left xs ys d j lt))

pairs_second : (xs ys : List (List ℕ)) → AllPairs (λ (a b : List ℕ). a ≢ b) (xs ++ ys) → AllPairs (λ (a b : List ℕ). a ≢ b) ys
pairs_second xs ys h i j d l lt e =
    h (length xs + i) (length xs + j) d (omega (arith, l)) (omega (arith, length-append xs ys, lt)) (shifted i ∙ e ∙ sym (shifted j))
  where
    shifted : (k : ℕ) → slice_index_or (xs ++ ys) (length xs + k) d ≡ slice_index_or ys k d
    shifted k =
        let back : length xs + k - length xs ≡ k = omega arith in
        get_or-append_right xs ys (length xs) (length xs + k) d refl (omega arith) ∙ rw back refl

-- ---- the part

module _ (c : ArrayCounts) (few : AreFew c) where
  small : (P : NorGate → Type 0) → ((i : ℕ) → i < c.lines → P (inverter (complement_net c i) (line_net c i)))
      → ((p : ℕ) → p < c.positions → P (inverter (inverse_net c p) (master_net c p)) × P (inverter (state_net c p) (stored_net c p)))
      → ((y : ℕ) → y < c.outputs → P (inverter (output_net c y) (shared_net c y))) → P (inverter (start_inverse_net c) (start_master_net c))
      → AllByRecursion P (part_gates c)
  small P line position output begin =
      each_append P _ _
      (each_append P _ _
      (each_append P _ _
      (each_append P _ _ (each_range P _ 0 c.lines (λ i l lt. line i (omega (arith, lt)))) (each_range P _ 0 c.positions (λ p l lt. (position p (omega (arith, lt))).0)))
      (each_range P _ 0 c.positions (λ p l lt. (position p (omega (arith, lt))).1)))
      (each_range P _ 0 c.outputs (λ y l lt. output y (omega (arith, lt)))))
      (begin, tt)

  fits : (out input : ℕ) → out < part_nets c → input < part_nets c → IsPartGate (part_nets c) (inverter out input)
  fits out input o i = record {
    out_below = o;
    inputs_below = All-from_recursion (λ net. net < part_nets c) (input ∷ []) (i, tt);
    distinct = all_pairs (λ (a b : ℕ). a ≢ b) (input ∷ []) (tt, tt);
  }

  gates_fit : AllByRecursion (IsPartGate (part_nets c)) (part_gates c)
  gates_fit =
      small (IsPartGate (part_nets c)) (λ i lt. fits _ _ (omega (arith, lt)) (omega (arith, lt)))
      (λ p lt. (fits _ _ (omega (arith, lt)) (omega (arith, lt)), fits _ _ (omega (arith, lt)) (omega (arith, lt))))
      (λ y lt. fits _ _ (omega (arith, lt)) (omega (arith, lt))) (fits _ _ (omega arith) (omega arith))

  gates_counted : length (part_gates c) ≡ c.lines + c.positions + c.positions + c.outputs + 1
  gates_counted =
      omega (
        arith,
        length-append (((g1 ++ g2) ++ g3) ++ g4) g5,
        length-append ((g1 ++ g2) ++ g3) g4,
        length-append (g1 ++ g2) g3,
        length-append g1 g2,
        length-map-range_with_len (λ i. inverter (complement_net c i) (line_net c i)) 0 c.lines,
        length-map-range_with_len (λ p. inverter (inverse_net c p) (master_net c p)) 0 c.positions,
        length-map-range_with_len (λ p. inverter (state_net c p) (stored_net c p)) 0 c.positions,
        length-map-range_with_len (λ y. inverter (output_net c y) (shared_net c y)) 0 c.outputs,
      )
    where
      g1 : List NorGate
      g1 = map (λ i. inverter (complement_net c i) (line_net c i)) (range_with_len 0 c.lines)

      g2 : List NorGate
      g2 = map (λ p. inverter (inverse_net c p) (master_net c p)) (range_with_len 0 c.positions)

      g3 : List NorGate
      g3 = map (λ p. inverter (state_net c p) (stored_net c p)) (range_with_len 0 c.positions)

      g4 : List NorGate
      g4 = map (λ y. inverter (output_net c y) (shared_net c y)) (range_with_len 0 c.outputs)

      g5 : List NorGate
      g5 = inverter (start_inverse_net c) (start_master_net c) ∷ []

  -- what holds of the transfers of each position and of the start holds of all
  pub each_transfer : (P : Transfer → Type 0) → ((p : ℕ) → p < c.positions → P (first_transfer c p)) → ((p : ℕ) → p < c.positions → P (second_transfer c p))
      → P (record { clock = Phi1; from = reset_net c; to = start_master_net c }) → P (record { clock = Phi2; from = start_inverse_net c; to = start_net c })
      → AllByRecursion P (array_transfers c)
  each_transfer P first second one other =
      each_append P _ _
      (each_append P _ _ (each_range P (first_transfer c) 0 c.positions (λ p l lt. first p (omega (arith, lt))))
      (each_range P (second_transfer c) 0 c.positions (λ p l lt. second p (omega (arith, lt)))))
      (one, (other, tt))

  transfers_counted : length (array_transfers c) ≡ c.positions + c.positions + 2
  transfers_counted =
      omega (
        arith,
        length-append (map (first_transfer c) (range_with_len 0 c.positions) ++ map (second_transfer c) (range_with_len 0 c.positions))
            (record { clock = Phi1; from = reset_net c; to = start_master_net c } ∷ record { clock = Phi2; from = start_inverse_net c; to = start_net c } ∷ []),
        length-append (map (first_transfer c) (range_with_len 0 c.positions)) (map (second_transfer c) (range_with_len 0 c.positions)),
        length-map-range_with_len (first_transfer c) 0 c.positions,
        length-map-range_with_len (second_transfer c) 0 c.positions,
      )

  pub is_part : Pairs (λ (a b : ℕ). a ≢ b) (map (λ (g : NorGate). g.out) (part_gates c)) → IsPart (array_part c)
  is_part loads =
      let l = few.lines in
      let p = few.positions in
      let o = few.outputs in
      record {
        few_nets = omega (arith, l, p, o);
        few_gates = omega (arith, l, p, o, gates_counted);
        few_loads = omega (arith, l, p, o, gates_counted, length-map (part_gates c) (λ (g : NorGate). g.out));
        few_transfers = omega (arith, p, transfers_counted);
        few_ports = omega arith;
        supplies_below = All-from_recursion (λ net. net < part_nets c) (supply_nets (array_part c)) (omega arith, (omega arith, (omega arith, (omega arith, tt))));
        supplies_differ =
            all_pairs (λ (a b : ℕ). a ≢ b) (supply_nets (array_part c)) (
              (λ e. omega (arith, e), (λ e. omega (arith, e), (λ e. omega (arith, e), tt))),
              ((λ e. omega (arith, e), (λ e. omega (arith, e), tt)), ((λ e. omega (arith, e), tt), (tt, tt))),
            );
        gates = All-from_recursion (IsPartGate (part_nets c)) (part_gates c) gates_fit;
        loads_below = All-from_recursion (λ net. net < part_nets c) (map (λ (g : NorGate). g.out) (part_gates c)) (below (part_gates c) gates_fit);
        loads_once = all_pairs (λ (a b : ℕ). a ≢ b) (map (λ (g : NorGate). g.out) (part_gates c)) loads;
        transfers =
            All-from_recursion (IsPartTransfer (part_nets c)) (array_transfers c)
            (each_transfer (IsPartTransfer (part_nets c))
            (λ k lt. record { clocked = inl refl; from_below = omega (arith, lt); to_below = omega (arith, lt) })
            (λ k lt. record { clocked = inr refl; from_below = omega (arith, lt); to_below = omega (arith, lt) })
            (record { clocked = inl refl; from_below = omega arith; to_below = omega arith })
            (record { clocked = inr refl; from_below = omega arith; to_below = omega arith }));
        ports = λ k d lt. absurd (omega (arith, lt));
      }
    where
      below : (gates : List NorGate) → AllByRecursion (IsPartGate (part_nets c)) gates → AllByRecursion (λ net. net < part_nets c) (map (λ (g : NorGate). g.out) gates)
      below [] h = tt
      below (g ∷ gates) h = (h.0.out_below, below gates h.1)

-- ---- the netlist

module _ (nfa : Automaton) (tables : Tables) (automaton : IsAutomaton nfa) (spec : IsSpecification tables) where
  abbrev c : ArrayCounts
  c = array.c nfa tables spec

  abbrev t : ℕ
  t = array.t nfa tables spec

  abbrev ks : List Bank
  ks = array.ks nfa tables spec

  abbrev gates : List NorGate
  gates = outs.gates nfa tables spec

  abbrev net : Netlist
  net = register_netlist nfa tables

  pub size : net.nets ≡ part_nets c + t
  size = ap (λ (n : ℕ). part_nets c + n) (array.terms_counted nfa tables spec)

  below : (s : Slot) (a : ℕ) → IsOf ks s a → a < net.nets
  below s a h =
      let l = below_total ks s.bank s.column h.row h.in_width h.in_rows in
      let e = h.is in
      omega (arith, l, e, size, slots.whole c t)

  pub few : AreFew c
  few = record { lines = spec.few_lines; positions = automaton.few; outputs = spec.few_outputs }

  -- ---- orders

  order1_is : net.order1 ≡ ordered ks slots1
  order1_is = rw (array.terms_counted nfa tables spec) (sym (slots.order1_is c t))

  order2_is : net.order2 ≡ ordered ks slots2
  order2_is = rw (array.terms_counted nfa tables spec) (sym (slots.order2_is c t))

  sized : (order : List ℕ) → All (λ n. n < total ks) order → All (λ n. n < net.nets) order
  sized order h = rw (size ∙ sym (slots.whole c t)) h

  module _ (clock : Role) (order : List ℕ) (below_all : All (λ n. n < total ks) order) (distinct : AllPairs (λ (a b : ℕ). a ≢ b) order)
      (complete : (n : ℕ) → n < total ks → Contains order n)
      (rises : (g : NorGate) → Stands ks g → AllByRecursion (λ input. place order input < place order g.out) g.inputs)
      (transfers : AllByRecursion (λ (x : Transfer). x.clock ≡ clock → place order x.from < place order x.to) (array_transfers c)) where
    is_order : IsOrder net clock order
    is_order = record {
      below = sized order below_all;
      distinct = distinct;
      complete = λ n lt. complete n (omega (arith, lt, size, slots.whole c t));
      gates =
          All-from_recursion (λ (g : NorGate). All (λ input. place order input < place order g.out) g.inputs) gates
          (each_weaker (Stands ks) (λ (g : NorGate). All (λ input. place order input < place order g.out) g.inputs)
          (λ g h. All-from_recursion (λ input. place order input < place order g.out) g.inputs (rises g h)) gates (array.all_stand nfa tables spec));
      transfers = All-from_recursion (λ (x : Transfer). x.clock ≡ clock → place order x.from < place order x.to) (array_transfers c) transfers;
    }

  first_ordered : IsOrder net Phi1 net.order1
  first_ordered =
      subst (IsOrder net Phi1) (sym order1_is)
      (is_order Phi1 (ordered ks slots1) (slots.below1 c t) (slots.distinct1 c t) (slots.complete1 c t)
      (λ g h.
      each_weaker (Feeds ks h.out) (λ input. place (ordered ks slots1) input < place (ordered ks slots1) g.out)
      (λ input f. slots.rises1 c t f.from h.out input g.out f.first f.is h.is) g.inputs h.inputs)
      (each_transfer c few (λ (x : Transfer). x.clock ≡ Phi1 → place (ordered ks slots1) x.from < place (ordered ks slots1) x.to)
      (λ p lt e. slots.rises1 c t sum master _ _ refl (slots.of_sum c t p lt) (slots.of_master c t p lt)) (λ p lt e. absurd (cc))
      (λ e. slots.rises1 c t reset begin_master _ _ refl (slots.of_reset c t) (slots.of_begin_master c t)) (λ e. absurd (cc))))

  second_ordered : IsOrder net Phi2 net.order2
  second_ordered =
      subst (IsOrder net Phi2) (sym order2_is)
      (is_order Phi2 (ordered ks slots2) (slots.below2 c t) (slots.distinct2 c t) (slots.complete2 c t)
      (λ g h.
      each_weaker (Feeds ks h.out) (λ input. place (ordered ks slots2) input < place (ordered ks slots2) g.out)
      (λ input f. slots.rises2 c t f.from h.out input g.out f.second f.is h.is) g.inputs h.inputs)
      (each_transfer c few (λ (x : Transfer). x.clock ≡ Phi2 → place (ordered ks slots2) x.from < place (ordered ks slots2) x.to)
      (λ p lt e. absurd (cc)) (λ p lt e. slots.rises2 c t inverse stored _ _ refl (slots.of_inverse c t p lt) (slots.of_stored c t p lt))
      (λ e. absurd (cc)) (λ e. slots.rises2 c t begin_inverse begin _ _ refl (slots.of_begin_inverse c t) (slots.of_begin c t))))

  -- ---- gates

  other_net : (s d : Slot) (a b : ℕ) → is_slot s d ≡ false → IsOf ks s a → IsOf ks d b → b ≢ a
  other_net s d a b h k l e = slots_differ ks s d a b h k l (sym e)

  free_of : (s : Slot) (a : ℕ) → IsOf ks s a → is_off s fixed_slots ≡ true → is_fixed (array_pads c tables) a ≡ false
  free_of s a h off =
      let f = slot_off s fixed_slots off in
      pads.loose_free c tables (array_pads c tables) a
      (pads.each_pad c tables (pads.Loose c tables a) (inl (other_net s vdd a 0 f.0 h (slots.of_vdd c t))) (inl (other_net s ground a (ground_net c) f.1.0 h (slots.of_ground c t)))
      (inl (other_net s phi1 a (phi1_net c) f.1.1.0 h (slots.of_phi1 c t))) (inl (other_net s phi2 a (phi2_net c) f.1.1.1.0 h (slots.of_phi2 c t)))
      (inl (other_net s reset a (reset_net c) f.1.1.1.1.0 h (slots.of_reset c t))) (λ i lt. inl (other_net s line a (line_net c i) f.1.1.1.1.1.0 h (slots.of_line c t i lt)))
      (λ y lt. inr refl))

  gate_of : (g : NorGate) → Stands ks g → IsGate net g
  gate_of g h = record {
    out_below = below h.out g.out h.is;
    inputs_below =
        All-from_recursion (λ input. input < net.nets) g.inputs
        (each_weaker (Feeds ks h.out) (λ input. input < net.nets) (λ input f. below f.from input f.is) g.inputs h.inputs);
    distinct = all_pairs (λ (a b : ℕ). a ≢ b) g.inputs h.distinct;
    free = free_of h.out g.out h.is h.free;
  }

  -- ---- transfers

  -- no gate and no pad drives what is stored
  no_gate : (d : Slot) → ((s : Slot) → is_off s kept_slots ≡ true → is_slot s d ≡ false) → (a : ℕ) → IsOf ks d a → All (λ (g : NorGate). g.out ≢ a) gates
  no_gate d off a h =
      All-from_recursion (λ (g : NorGate). g.out ≢ a) gates
      (each_weaker (Stands ks) (λ (g : NorGate). g.out ≢ a) (λ g k. slots_differ ks k.out d g.out a (off k.out k.logic) k.is h) gates (array.all_stand nfa tables spec))

  no_pad : (d : Slot) → is_off d (output ∷ fixed_slots) ≡ true → (a : ℕ) → IsOf ks d a → All (λ (pad : Pad). pad.net.0 ≢ a) net.pads
  no_pad d off a h =
      let f = slot_off d (output ∷ fixed_slots) off in
      All-from_recursion (λ (pad : Pad). pad.net.0 ≢ a) (array_pads c tables)
      (pads.each_pad c tables (λ (pad : Pad). pad.net.0 ≢ a) (other_net d vdd a 0 f.1.0 h (slots.of_vdd c t)) (other_net d ground a (ground_net c) f.1.1.0 h (slots.of_ground c t))
      (other_net d phi1 a (phi1_net c) f.1.1.1.0 h (slots.of_phi1 c t)) (other_net d phi2 a (phi2_net c) f.1.1.1.1.0 h (slots.of_phi2 c t))
      (other_net d reset a (reset_net c) f.1.1.1.1.1.0 h (slots.of_reset c t)) (λ i lt. other_net d line a (line_net c i) f.1.1.1.1.1.1.0 h (slots.of_line c t i lt))
      (λ y lt. other_net d output a (output_net c y) f.0 h (slots.of_output c t y lt)))

  off_master : (s : Slot) → is_off s kept_slots ≡ true → is_slot s master ≡ false
  off_master s h = (slot_off s kept_slots h).0

  off_stored : (s : Slot) → is_off s kept_slots ≡ true → is_slot s stored ≡ false
  off_stored s h = (slot_off s kept_slots h).1.0

  off_begin_master : (s : Slot) → is_off s kept_slots ≡ true → is_slot s begin_master ≡ false
  off_begin_master s h = (slot_off s kept_slots h).1.1.0

  off_begin : (s : Slot) → is_off s kept_slots ≡ true → is_slot s begin ≡ false
  off_begin s h = (slot_off s kept_slots h).1.1.1.0

  transfer_of : (x : Transfer) (d : Slot) → (x.clock ≡ Phi1) ⊎ (x.clock ≡ Phi2) → IsOf ks d x.to → IsOutput gates x.from ⊎ IsData net.pads x.from
      → ((s : Slot) → is_off s kept_slots ≡ true → is_slot s d ≡ false) → is_off d (output ∷ fixed_slots) ≡ true → IsTransfer net x
  transfer_of x d clock h from off free = record {
    clocked = clock;
    to_below = below d x.to h;
    driven = from;
    no_gate = no_gate d off x.to h;
    no_pad = no_pad d free x.to h;
  }

  transfers_fit : All (IsTransfer net) (array_transfers c)
  transfers_fit =
      All-from_recursion (IsTransfer net) (array_transfers c)
      (each_transfer c few (IsTransfer net)
      (λ p lt. transfer_of _ master (inl refl) (slots.of_master c t p lt) (inl (is_output_of gates _ (outs.sum_nor nfa tables spec p lt).output)) off_master refl)
      (λ p lt. transfer_of _ stored (inr refl) (slots.of_stored c t p lt) (inl (is_output_of gates _ (outs.inverse_nor nfa tables spec p lt).output)) off_stored refl)
      (transfer_of _ begin_master (inl refl) (slots.of_begin_master c t) (inr (4, plain Reset (reset_net c), omega arith, refl, (refl, inl refl))) off_begin_master refl)
      (transfer_of _ begin (inr refl) (slots.of_begin c t) (inl (is_output_of gates _ (outs.start_nor nfa tables spec).output)) off_begin refl))

  abbrev ToApart : Transfer → Transfer → Type 0
  ToApart a b = a.to ≢ b.to

  transfers_apart : Pairs ToApart (array_transfers c)
  transfers_apart =
      pairs_append ToApart _ _
      (pairs_append ToApart (map (first_transfer c) (range_with_len 0 c.positions)) (map (second_transfer c) (range_with_len 0 c.positions))
      (pairs_range ToApart (first_transfer c) 0 c.positions (λ i j l lt jl e. omega (arith, e, lt)))
      (pairs_range ToApart (second_transfer c) 0 c.positions (λ i j l lt jl e. omega (arith, e, lt)))
      (each_range (λ a. AllByRecursion (ToApart a) (map (second_transfer c) (range_with_len 0 c.positions))) (first_transfer c) 0 c.positions
      (λ i l lt. each_range (ToApart (first_transfer c i)) (second_transfer c) 0 c.positions (λ j m jl e. omega (arith, e)))))
      ((λ e. omega (arith, e), tt), (tt, tt))
      (each_append (λ a. AllByRecursion (ToApart a) starts) _ _
      (each_range (λ a. AllByRecursion (ToApart a) starts) (first_transfer c) 0 c.positions (λ i l lt. (λ e. omega (arith, e, lt), (λ e. omega (arith, e), tt))))
      (each_range (λ a. AllByRecursion (ToApart a) starts) (second_transfer c) 0 c.positions (λ i l lt. (λ e. omega (arith, e, lt), (λ e. omega (arith, e), tt)))))
    where
      starts : List Transfer
      starts = record { clock = Phi1; from = reset_net c; to = start_master_net c } ∷ record { clock = Phi2; from = start_inverse_net c; to = start_net c } ∷ []

  -- ---- all

  pub is_netlist : IsNetlist net
  is_netlist = record {
    pads = record {
      pads_below = All-from_recursion (λ (pad : Pad). pad.net.0 < net.nets) (array_pads c tables)
          (subst (λ (n : ℕ). AllByRecursion (λ (pad : Pad). pad.net.0 < n) (array_pads c tables)) (sym size) (pads.pads_below c tables t));
      devices_below = λ k d lt. absurd (omega (arith, lt));
      distinct =
          all_pairs AreDistinct (array_pads c tables)
          (pads.pads_differ c tables refl refl
          (pairs_first tables.lines (map (λ s. s.name) tables.symbols) (pairs_first (tables.lines ++ map (λ s. s.name) tables.symbols) tables.outputs spec.names_differ))
          (pairs_second (tables.lines ++ map (λ s. s.name) tables.symbols) tables.outputs spec.names_differ));
      vdd = (0, plain Vdd 0, omega arith, refl, refl);
      gnd = (1, plain Gnd (ground_net c), omega arith, refl, refl);
      phi1 = (2, plain Phi1 (phi1_net c), omega arith, refl, refl);
      phi2 = (3, plain Phi2 (phi2_net c), omega arith, refl, refl);
      reset = (4, plain Reset (reset_net c), omega arith, refl, refl);
    };
    few_inputs = omega (arith, pads.inputs_counted c tables, spec.few_lines);
    gates = All-from_recursion (IsGate net) gates (each_weaker (Stands ks) (IsGate net) gate_of gates (array.all_stand nfa tables spec));
    transfers = transfers_fit;
    one_transfer = all_pairs ToApart (array_transfers c) transfers_apart;
    first_order = first_ordered;
    second_order = second_ordered;
  }
