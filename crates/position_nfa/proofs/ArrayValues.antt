-- Values that solve the equations of the registers: lines, reset, registers.
use Rattle.std.proofs.Common.{◌≡◌, ℕ, zero, suc, ◌+◌, ◌<◌, ◌||◌, not, Bool, true, false, List, [], ◌∷◌, ◌++◌, map, length, slice_index_or, Some, Contains, refl, ap, sym, ◌∙◌, arith, eq-eqb}
use Rattle.std.specs.List.{list_any, range_with_len}
use Rattle.std.proofs.lemmas.Bool.{ne_eqb}
use Rattle.std.proofs.lemmas.List.Elements.{Contains-append_left, Contains-append_right}
use Rattle.rx_text.specs.declared.pad_name.Role.TheVariants.{Phi1, Phi2, Input}
use Rattle.rx_lang.specs.Tables.{Tables, IsSpecification}
use Rattle.switch_net.specs.Clock.{Drive, first_bit, later_bits, drives_from, drives_of}
use Rattle.switch_net.specs.Settling.{fixed_level}
use Rattle.switch_net.specs.declared.network.Pad.{Pad}
use Rattle.nor_net.specs.Netlist.{NorGate, Netlist}
use Rattle.nor_net.specs.Evaluation.{value_at, phase}
use Rattle.nor_net.specs.Equations.{Solves, ClockSolves}
use Rattle.nor_net.specs.declared.gate.Transfer.{Transfer}
use Rattle.position_nfa.specs.declared.array_nets.ArrayCounts.{ArrayCounts}
use Rattle.position_nfa.specs.Automaton.{Automaton, IsAutomaton}
use Rattle.position_nfa.specs.Registers.{line_net, complement_net, state_net, start_net, reset_net, ground_net, master_net, sum_net, inverse_net, stored_net, phi1_net, phi2_net, start_master_net, start_inverse_net, part_nets, first_transfer, second_transfer, array_transfers, line_pad, output_pad, array_pads, register_netlist}
use Rattle.position_nfa.proofs.Banks.{Bank, Slot, IsOf}
use Rattle.position_nfa.proofs.ArraySlots as slots
use Rattle.position_nfa.proofs.ArrayGates as array
use Rattle.position_nfa.proofs.ArrayOuts as outs
use Rattle.position_nfa.proofs.ArrayOuts.{range_contains}
use Rattle.position_nfa.proofs.Nors.{IsNor}
use Rattle.position_nfa.proofs.RegisterNetlist as netlist

pub not_not : (b : Bool) → not (not b) ≡ b
not_not true = refl
not_not false = refl

or_false : (b : Bool) → (b || false) ≡ b
or_false true = refl
or_false false = refl

module _ (nfa : Automaton) (tables : Tables) (automaton : IsAutomaton nfa) (spec : IsSpecification tables) where
  abbrev pub c : ArrayCounts
  c = array.c nfa tables spec

  abbrev t : ℕ
  t = array.t nfa tables spec

  abbrev pub gates : List NorGate
  gates = outs.gates nfa tables spec

  abbrev pub net : Netlist
  net = register_netlist nfa tables

  pub size : net.nets ≡ part_nets c + t
  size = netlist.size nfa tables automaton spec

  -- ---- transfers

  pub first_in : (p : ℕ) → p < c.positions → Contains (array_transfers c) (first_transfer c p)
  first_in p lt =
      Contains-append_left _ starts _
      (Contains-append_left _ (map (second_transfer c) (range_with_len 0 c.positions)) _ (range_contains (first_transfer c) 0 c.positions p (omega arith) (omega (arith, lt))))
    where
      starts : List Transfer
      starts = record { clock = Phi1; from = reset_net c; to = start_master_net c } ∷ record { clock = Phi2; from = start_inverse_net c; to = start_net c } ∷ []

  pub second_in : (p : ℕ) → p < c.positions → Contains (array_transfers c) (second_transfer c p)
  second_in p lt =
      Contains-append_left _ starts _
      (Contains-append_right (map (first_transfer c) (range_with_len 0 c.positions)) _ _ (range_contains (second_transfer c) 0 c.positions p (omega arith) (omega (arith, lt))))
    where
      starts : List Transfer
      starts = record { clock = Phi1; from = reset_net c; to = start_master_net c } ∷ record { clock = Phi2; from = start_inverse_net c; to = start_net c } ∷ []

  pub start_first_in : Contains (array_transfers c) (record { clock = Phi1; from = reset_net c; to = start_master_net c })
  start_first_in = Contains-append_right (map (first_transfer c) (range_with_len 0 c.positions) ++ map (second_transfer c) (range_with_len 0 c.positions)) _ _ (0, omega arith, refl)

  pub start_second_in : Contains (array_transfers c) (record { clock = Phi2; from = start_inverse_net c; to = start_net c })
  start_second_in = Contains-append_right (map (first_transfer c) (range_with_len 0 c.positions) ++ map (second_transfer c) (range_with_len 0 c.positions)) _ _ (1, omega arith, refl)

  -- ---- pads

  abbrev outputs : List Pad
  outputs = map (output_pad c tables.outputs) (range_with_len 0 c.outputs)

  line_level : (drive : Drive) (a n at : ℕ) (bits : List Bool) (rest : List Pad) (i : ℕ) → a + i ≡ at → i < n
      → fixed_level (map (line_pad c tables.lines) (range_with_len a n) ++ rest)
      (drives_from drive bits (map (line_pad c tables.lines) (range_with_len a n) ++ rest)) (1 + at)
      ≡ Some (slice_index_or bits i false)
  line_level drive a zero at bits rest i e lt = absurd (omega (arith, lt))
  line_level drive a (suc n) at bits rest zero e lt = rw (eq-eqb (1 + a) (1 + at) (omega (arith, e))) (first bits)
    where
      first : (bits : List Bool) → Some (first_bit bits) ≡ Some (slice_index_or bits 0 false)
      first [] = refl
      first (bit ∷ bits) = refl
  line_level drive a (suc n) at bits rest (suc i) e lt =
      rw (ne_eqb (1 + a) (1 + at) (λ f. omega (arith, f, e)))
      (line_level drive (a + 1) n at (later_bits bits) rest i (omega (arith, e)) (omega (arith, lt)) ∙ later bits)
    where
      later : (bits : List Bool) → Some (slice_index_or (later_bits bits) i false) ≡ Some (slice_index_or bits (suc i) false)
      later [] = refl
      later (bit ∷ bits) = refl

  line_fixed : (drive : Drive) (i : ℕ) → i < c.lines
      → fixed_level (array_pads c tables) (drives_of drive (array_pads c tables)) (1 + i) ≡ Some (slice_index_or drive.lines i false)
  line_fixed drive i lt =
      rw (
        ne_eqb 0 (1 + i) (λ e. omega (arith, e)),
        ne_eqb (ground_net c) (1 + i) (λ e. omega (arith, e, lt)),
        ne_eqb (phi1_net c) (1 + i) (λ e. omega (arith, e, lt)),
        ne_eqb (phi2_net c) (1 + i) (λ e. omega (arith, e, lt)),
        ne_eqb (reset_net c) (1 + i) (λ e. omega (arith, e, lt)),
      )
      (line_level drive 0 c.lines i drive.lines outputs i (omega arith) lt)

  reset_fixed : (drive : Drive) → fixed_level (array_pads c tables) (drives_of drive (array_pads c tables)) (reset_net c) ≡ Some drive.reset
  reset_fixed drive =
      rw (
        ne_eqb 0 (reset_net c) (λ e. omega (arith, e)),
        ne_eqb (ground_net c) (reset_net c) (λ e. omega (arith, e)),
        ne_eqb (phi1_net c) (reset_net c) (λ e. omega (arith, e)),
        ne_eqb (phi2_net c) (reset_net c) (λ e. omega (arith, e)),
        eq-eqb (reset_net c) (reset_net c) refl,
      )
      refl

  -- ---- nets

  module _ (drive : Drive) (old new : List Bool) (h : Solves net drive old new) where
    pub nor_value : (a : ℕ) (inputs : List ℕ) → a < part_nets c + t → IsNor gates a inputs → value_at new a ≡ not (list_any (value_at new) inputs)
    nor_value a inputs lt nor = h.gates a (omega (arith, lt, size)) nor.output ∙ ap not (nor.pulled new)

    pub inverted : (a b : ℕ) → a < part_nets c + t → IsNor gates a (b ∷ []) → value_at new a ≡ not (value_at new b)
    inverted a b lt nor = nor_value a (b ∷ []) lt nor ∙ ap not (or_false (value_at new b))

    pub line_value : (i : ℕ) → i < c.lines → value_at new (line_net c i) ≡ slice_index_or drive.lines i false
    line_value i lt = h.pads (line_net c i) (slice_index_or drive.lines i false) (omega (arith, size, lt)) (line_fixed drive i lt)

    pub reset_value : value_at new (reset_net c) ≡ drive.reset
    reset_value = h.pads (reset_net c) drive.reset (omega (arith, size)) (reset_fixed drive)

    pub complement_value : (i : ℕ) → i < c.lines → value_at new (complement_net c i) ≡ not (slice_index_or drive.lines i false)
    complement_value i lt =
        inverted (complement_net c i) (line_net c i) (omega (arith, lt)) (outs.complement_nor nfa tables spec i lt) ∙ ap not (line_value i lt)

  -- ---- one clock

  module _ (reset : Bool) (lines old new : List Bool) (clock : ClockSolves net reset lines old new) where
    -- the complement of a position's state is what its sum was while PHI1 was high
    pub state_gives : (p : ℕ) → p < c.positions → value_at new (state_net c p) ≡ value_at clock.first (sum_net c p)
    state_gives p lt =
        inverted (phase reset lines false false) clock.second new clock.phi2_low (state_net c p) (stored_net c p) (omega (arith, lt)) (outs.state_nor nfa tables spec p lt)
        ∙ ap not (clock.phi2_low.transfers _ (second_in p lt) ∙ clock.phi2_high.transfers _ (second_in p lt)
        ∙ inverted (phase reset lines false true) clock.between clock.second clock.phi2_high (inverse_net c p) (master_net c p) (omega (arith, lt)) (outs.inverse_nor nfa tables spec p lt))
        ∙ not_not (value_at clock.second (master_net c p))
        ∙ clock.phi2_high.transfers _ (first_in p lt) ∙ clock.phi1_low.transfers _ (first_in p lt) ∙ clock.phi1_high.transfers _ (first_in p lt)

    -- that of the start is low where the reset was high
    pub start_gives : value_at new (start_net c) ≡ not reset
    start_gives =
        clock.phi2_low.transfers _ start_second_in ∙ clock.phi2_high.transfers _ start_second_in
        ∙ inverted (phase reset lines false true) clock.between clock.second clock.phi2_high (start_inverse_net c) (start_master_net c) (omega arith) (outs.start_nor nfa tables spec)
        ∙ ap not (clock.phi2_high.transfers _ start_first_in ∙ clock.phi1_low.transfers _ start_first_in ∙ clock.phi1_high.transfers _ start_first_in
        ∙ reset_value (phase reset lines true false) clock.changed clock.first clock.phi1_high)

    -- and both are kept until PHI2 is high
    module _ (before : Drive) (older : List Bool) (h : Solves net before older old) where
      pub state_kept : (p : ℕ) → p < c.positions → value_at clock.first (state_net c p) ≡ value_at old (state_net c p)
      state_kept p lt =
          inverted (phase reset lines true false) clock.changed clock.first clock.phi1_high (state_net c p) (stored_net c p) (omega (arith, lt)) (outs.state_nor nfa tables spec p lt)
          ∙ ap not (clock.phi1_high.transfers _ (second_in p lt) ∙ clock.settles.transfers _ (second_in p lt))
          ∙ sym (inverted before older old h (state_net c p) (stored_net c p) (omega (arith, lt)) (outs.state_nor nfa tables spec p lt))

    pub start_kept : value_at clock.first (start_net c) ≡ value_at old (start_net c)
    start_kept = clock.phi1_high.transfers _ start_second_in ∙ clock.settles.transfers _ start_second_in
