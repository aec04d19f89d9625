-- Under the reset every term of a step is low, so all sums are known in one round.
use Rattle.std.specs.Prelude.{flat_map}
use Rattle.std.proofs.Common.{◌≡◌, ◌≢◌, inl, inr, ℕ, zero, suc, ◌+◌, ◌-◌, ◌<◌, ◌==◌, ◌&&◌, ◌||◌, not, Bool, true, false, if◌then◌else◌, List, [], ◌∷◌, ◌++◌, map, length, All, Contains, refl, ap, sym, subst, ◌∙◌, arith, eq-eqb}
use Rattle.std.specs.List.{AllByRecursion, range_with_len, list_any, list_all}
use Rattle.std.proofs.lemmas.Bool.{ne_eqb, cases_lt, or_left, or_right, and_from}
use Rattle.std.proofs.lemmas.List.Elements.{All-from_recursion, All-contains, recursion_from_All, Contains-append_left, Contains-append_right}
use Rattle.std.proofs.lemmas.List.Folds.{list_any-append}
use Rattle.rx_text.specs.declared.pad_name.Role.{Role}
use Rattle.rx_text.specs.declared.pad_name.Role.TheVariants.{Phi1, Phi2, Reset, Output}
use Rattle.rx_lang.specs.Tables.{Tables, IsSpecification}
use Rattle.rx_lang.specs.Positions.{State, Step}
use Rattle.switch_net.specs.ClockedLogic.{is_fixed}
use Rattle.switch_net.specs.Validity.{is_same_role}
use Rattle.switch_net.specs.declared.network.Pad.{Pad}
use Rattle.nor_net.specs.Netlist.{NorGate, Netlist}
use Rattle.nor_net.specs.Evaluation.{is_output}
use Rattle.nor_net.specs.Clearing.{is_cleared, is_target, follows_store, is_driven, is_known_in, IsKnownByReset}
use Rattle.nor_net.specs.SwitchForm.{net_of}
use Rattle.nor_net.specs.declared.gate.Transfer.{Transfer}
use Rattle.position_nfa.specs.declared.array_nets.ArrayCounts.{ArrayCounts}
use Rattle.position_nfa.specs.Automaton.{Automaton, IsAutomaton}
use Rattle.position_nfa.specs.Registers.{line_net, complement_net, state_net, start_net, reset_net, ground_net, master_net, sum_net, inverse_net, stored_net, shared_net, output_net, phi1_net, phi2_net, start_master_net, start_inverse_net, term_net, state_inputs, literals, pattern_at, step_of, step_gate, leads_to, feeding_term, sum_gate, inverter, first_transfer, second_transfer, array_transfers, line_pad, output_pad, array_pads, register_netlist, fixed_nets, first_nets, second_nets}
use Rattle.position_nfa.proofs.Ranges.{Pairs, each_append, each_range, each_piece, each_weaker}
use Rattle.position_nfa.proofs.ArrayGates as array
use Rattle.position_nfa.proofs.ArrayOuts as outs
use Rattle.position_nfa.proofs.ArrayValues as values
use Rattle.position_nfa.proofs.Nors.{OutsApart}
use Rattle.position_nfa.proofs.RegisterNetlist.{each_transfer, is_netlist, few}

-- the one gate of an output passes a test, so all gates with this output do
only_gate : (test : NorGate → Bool) (gates : List NorGate) (g : NorGate) → Pairs OutsApart gates → Contains gates g → test g ≡ true
    → list_all (λ h. not (h.out == g.out) || test h) gates ≡ true
only_gate test [] g apart (i, lt, e) h = absurd (omega (arith, lt))
only_gate test (x ∷ gates) g apart (zero, lt, e) h =
    let same : x ≡ g = e in
    and_from _ _ (or_right (not (x.out == g.out)) (test x) (ap test same ∙ h))
    (others gates (subst (λ (y : NorGate). AllByRecursion (OutsApart y) gates) same apart.0))
  where
    others : (rest : List NorGate) → AllByRecursion (OutsApart g) rest → list_all (λ h. not (h.out == g.out) || test h) rest ≡ true
    others [] k = refl
    others (y ∷ rest) k = and_from _ _ (or_left (not (y.out == g.out)) (test y) (rw (ne_eqb y.out g.out (λ f. k.0 (sym f))) refl)) (others rest k.1)
only_gate test (x ∷ gates) g apart (suc i, lt, e) h =
    let other : OutsApart x g = subst (OutsApart x) e (All-from_recursion (OutsApart x) gates apart.0 i g (omega (arith, lt))) in
    and_from _ _ (or_left (not (x.out == g.out)) (test x) (rw (ne_eqb x.out g.out other) refl)) (only_gate test gates g apart.1 (i, omega (arith, lt), e) h)

some_of : {X : Type 0} (test : X → Bool) (xs : List X) (x : X) → Contains xs x → test x ≡ true → list_any test xs ≡ true
some_of test [] x (i, lt, e) h = absurd (omega (arith, lt))
some_of test (y ∷ xs) x (zero, lt, e) h = or_left (test y) (list_any test xs) (ap test e ∙ h)
some_of test (y ∷ xs) x (suc i, lt, e) h = or_right (test y) (list_any test xs) (some_of test xs x (i, omega (arith, lt), e) h)

all_of : (test : ℕ → Bool) (xs : List ℕ) → AllByRecursion (λ x. test x ≡ true) xs → list_all test xs ≡ true
all_of test [] h = refl
all_of test (x ∷ xs) h = and_from (test x) (list_all test xs) h.0 (all_of test xs h.1)

module _ (nfa : Automaton) (tables : Tables) (automaton : IsAutomaton nfa) (spec : IsSpecification tables) where
  abbrev c : ArrayCounts
  c = array.c nfa tables spec

  abbrev net : Netlist
  net = register_netlist nfa tables

  abbrev going : List Step
  going = array.going nfa tables spec

  abbrev gates : List NorGate
  gates = outs.gates nfa tables spec

  reset_is : net_of net.pads Reset ≡ reset_net c
  reset_is = refl

  -- ---- what the reset clears

  cleared : (k : ℕ) → k < length going → is_cleared net (term_net c k) ≡ true
  cleared k lt =
      let g = step_gate c tables.symbols going k in
      some_of (λ (gate : NorGate). gate.out == term_net c k && list_any (λ input. input == reset_net c) gate.inputs) gates g (outs.step_in nfa tables spec k lt)
      (and_from (g.out == term_net c k) (list_any (λ input. input == reset_net c) g.inputs) (eq-eqb (term_net c k) (term_net c k) refl)
      (list_any-append (λ input. input == reset_net c) (state_inputs c (step_of going k).state) (reset_net c ∷ literals c (pattern_at tables.symbols (step_of going k).symbol))
      ∙ or_right (list_any (λ input. input == reset_net c) (state_inputs c (step_of going k).state)) _ (or_left (reset_net c == reset_net c) _ (eq-eqb (reset_net c) (reset_net c) refl))))

  if_each : (P : ℕ → Type 0) (b : Bool) (a : ℕ) → P a → AllByRecursion P (if b then a ∷ [] else [])
  if_each P true a h = (h, tt)
  if_each P false a h = tt

  -- so the sums are known
  sum_known : (p : ℕ) → p < c.positions → is_known_in net 1 (sum_net c p) ≡ true
  sum_known p lt =
      or_right (is_known_in net 0 (sum_net c p)) _
      (and_from (is_output gates (sum_net c p)) _ (outs.sum_nor nfa tables spec p lt).output
      (only_gate (λ gate. list_all (is_known_in net 0) gate.inputs) gates (sum_gate c nfa going p) (outs.gates_apart nfa tables spec) (outs.sum_in nfa tables spec p lt)
      (all_of (is_known_in net 0) (sum_gate c nfa going p).inputs
      (each_piece (λ n. is_known_in net 0 n ≡ true) (feeding_term c nfa going p) 0 (length going)
      (λ k l kl.
      if_each (λ n. is_known_in net 0 n ≡ true) (leads_to nfa p (step_of going k)) (term_net c k)
      (or_right (is_fixed net.pads (term_net c k)) (is_cleared net (term_net c k)) (cleared k (omega (arith, kl)))))))))

  -- ---- targets

  target : (clock : Role) (x : Transfer) → Contains (array_transfers c) x → is_same_role x.clock clock ≡ true → is_target net clock x.to ≡ true
  target clock x has same =
      some_of (λ (transfer : Transfer). is_same_role transfer.clock clock && transfer.to == x.to) (array_transfers c) x has
      (and_from (is_same_role x.clock clock) (x.to == x.to) same (eq-eqb x.to x.to refl))

  stores : (out input : ℕ) → Contains gates (inverter out input) → is_output gates out ≡ true → is_target net Phi1 input ≡ true → follows_store net out ≡ true
  stores out input has output is =
      and_from (is_output gates out) _ output
      (only_gate (λ gate. list_all (is_target net Phi1) gate.inputs) gates (inverter out input) (outs.gates_apart nfa tables spec) has
      (and_from (is_target net Phi1 input) true is refl))

  -- ---- every net is driven

  by_gate : (n : ℕ) → is_output gates n ≡ true → is_driven net n ≡ true
  by_gate n e = or_right (is_fixed net.pads n) _ (or_left (is_output gates n) _ e)

  by_first : (n : ℕ) → is_target net Phi1 n ≡ true → is_driven net n ≡ true
  by_first n e = or_right (is_fixed net.pads n) _ (or_right (is_output gates n) _ (or_left (is_target net Phi1 n) _ e))

  by_second : (n : ℕ) → is_target net Phi2 n ≡ true → is_driven net n ≡ true
  by_second n e = or_right (is_fixed net.pads n) _ (or_right (is_output gates n) _ (or_right (is_target net Phi1 n) _ e))

  by_pad : (n : ℕ) → is_fixed net.pads n ≡ true → is_driven net n ≡ true
  by_pad n e = or_left (is_fixed net.pads n) _ e

  line_fixes : (a n at i : ℕ) (rest : List Pad) → a + i ≡ at → i < n
      → is_fixed (map (line_pad c tables.lines) (range_with_len a n) ++ rest) (1 + at) ≡ true
  line_fixes a zero at i rest e lt = absurd (omega (arith, lt))
  line_fixes a (suc n) at zero rest e lt = rw (eq-eqb (1 + a) (1 + at) (omega (arith, e))) refl
  line_fixes a (suc n) at (suc i) rest e lt =
      rw (ne_eqb (1 + a) (1 + at) (λ f. omega (arith, f, e))) (line_fixes (a + 1) n at i rest (omega (arith, e)) (omega (arith, lt)))

  fixed_driven : AllByRecursion (λ n. is_driven net n ≡ true) (fixed_nets c)
  fixed_driven = (
    by_pad 0 refl,
    (
      by_pad (ground_net c) (rw (ne_eqb 0 (ground_net c) (λ e. omega (arith, e)), eq-eqb (ground_net c) (ground_net c) refl) refl),
      (
        by_pad (phi1_net c)
            (rw (ne_eqb 0 (phi1_net c) (λ e. omega (arith, e)), ne_eqb (ground_net c) (phi1_net c) (λ e. omega (arith, e)), eq-eqb (phi1_net c) (phi1_net c) refl) refl),
        (
          by_pad (phi2_net c)
              (rw (
                ne_eqb 0 (phi2_net c) (λ e. omega (arith, e)),
                ne_eqb (ground_net c) (phi2_net c) (λ e. omega (arith, e)),
                ne_eqb (phi1_net c) (phi2_net c) (λ e. omega (arith, e)),
                eq-eqb (phi2_net c) (phi2_net c) refl,
              )
              refl),
          (
            by_pad (reset_net c)
                (rw (
                  ne_eqb 0 (reset_net c) (λ e. omega (arith, e)),
                  ne_eqb (ground_net c) (reset_net c) (λ e. omega (arith, e)),
                  ne_eqb (phi1_net c) (reset_net c) (λ e. omega (arith, e)),
                  ne_eqb (phi2_net c) (reset_net c) (λ e. omega (arith, e)),
                  eq-eqb (reset_net c) (reset_net c) refl,
                )
                refl),
            each_range (λ n. is_driven net n ≡ true) (line_net c) 0 c.lines
                (λ i l lt.
                by_pad (line_net c i)
                (rw (
                  ne_eqb 0 (1 + i) (λ e. omega (arith, e)),
                  ne_eqb (ground_net c) (1 + i) (λ e. omega (arith, e, lt)),
                  ne_eqb (phi1_net c) (1 + i) (λ e. omega (arith, e, lt)),
                  ne_eqb (phi2_net c) (1 + i) (λ e. omega (arith, e, lt)),
                  ne_eqb (reset_net c) (1 + i) (λ e. omega (arith, e, lt)),
                )
                (line_fixes 0 c.lines i i _ (omega arith) (omega (arith, lt))))),
          ),
        ),
      ),
    ),
  )

  first_driven : AllByRecursion (λ n. is_driven net n ≡ true) (first_nets c)
  first_driven =
      each_append (λ n. is_driven net n ≡ true) _ _
      (each_append (λ n. is_driven net n ≡ true) _ _
      (each_append (λ n. is_driven net n ≡ true) _ _
      (each_range (λ n. is_driven net n ≡ true) (master_net c) 0 c.positions
      (λ p l lt. by_first (master_net c p) (target Phi1 (first_transfer c p) (values.first_in nfa tables automaton spec p (omega (arith, lt))) refl)))
      (by_first (start_master_net c) (target Phi1 _ (values.start_first_in nfa tables automaton spec) refl), tt))
      (each_range (λ n. is_driven net n ≡ true) (inverse_net c) 0 c.positions (λ p l lt. by_gate (inverse_net c p) (outs.inverse_nor nfa tables spec p (omega (arith, lt))).output)))
      (by_gate (start_inverse_net c) (outs.start_nor nfa tables spec).output, tt)

  -- by number: first the terms of steps and then those of marks
  term_driven : (k : ℕ) → k < length (outs.terms nfa tables spec) → is_driven net (term_net c k) ≡ true
  term_driven k lt =
      elim (cases_lt k (length going)) [
        | inl low ↦ by_gate (term_net c k) (outs.step_nor nfa tables spec k low).output
        | inr high ↦
            let back : length going + (k - length going) ≡ k = omega (arith, high) in
            subst (λ (n : ℕ). is_driven net (term_net c n) ≡ true) back
            (by_gate (term_net c (length going + (k - length going))) (outs.mark_nor nfa tables spec (k - length going) (omega (arith, lt, high, array.terms_counted nfa tables spec))).output)
      ]

  second_driven : AllByRecursion (λ n. is_driven net n ≡ true) (second_nets c (length (outs.terms nfa tables spec)))
  second_driven =
      each_append (λ n. is_driven net n ≡ true) _ _
      (each_append (λ n. is_driven net n ≡ true) _ _
      (each_append (λ n. is_driven net n ≡ true) _ _
      (each_append (λ n. is_driven net n ≡ true) _ _
      (each_append (λ n. is_driven net n ≡ true) _ _
      (each_append (λ n. is_driven net n ≡ true) _ _
      (each_append (λ n. is_driven net n ≡ true) _ _
      (each_range (λ n. is_driven net n ≡ true) (stored_net c) 0 c.positions
      (λ p l lt. by_second (stored_net c p) (target Phi2 (second_transfer c p) (values.second_in nfa tables automaton spec p (omega (arith, lt))) refl)))
      (by_second (start_net c) (target Phi2 _ (values.start_second_in nfa tables automaton spec) refl), tt))
      (each_range (λ n. is_driven net n ≡ true) (complement_net c) 0 c.lines (λ i l lt. by_gate (complement_net c i) (outs.complement_nor nfa tables spec i (omega (arith, lt))).output)))
      (each_range (λ n. is_driven net n ≡ true) (state_net c) 0 c.positions (λ p l lt. by_gate (state_net c p) (outs.state_nor nfa tables spec p (omega (arith, lt))).output)))
      (each_range (λ n. is_driven net n ≡ true) (term_net c) 0 (length (outs.terms nfa tables spec)) (λ k l lt. term_driven k (omega (arith, lt)))))
      (each_range (λ n. is_driven net n ≡ true) (sum_net c) 0 c.positions (λ p l lt. by_gate (sum_net c p) (outs.sum_nor nfa tables spec p (omega (arith, lt))).output)))
      (each_range (λ n. is_driven net n ≡ true) (shared_net c) 0 c.outputs (λ y l lt. by_gate (shared_net c y) (outs.shared_nor nfa tables spec y (omega (arith, lt))).output)))
      (each_range (λ n. is_driven net n ≡ true) (output_net c) 0 c.outputs (λ y l lt. by_gate (output_net c y) (outs.output_nor nfa tables spec y (omega (arith, lt))).output))

  driven : (n : ℕ) → n < net.nets → is_driven net n ≡ true
  driven n lt =
      All-contains (λ n. is_driven net n ≡ true) net.order1 n
      (All-from_recursion (λ n. is_driven net n ≡ true) net.order1
      (each_append (λ n. is_driven net n ≡ true) (fixed_nets c ++ second_nets c (length (outs.terms nfa tables spec))) (first_nets c)
      (each_append (λ n. is_driven net n ≡ true) (fixed_nets c) (second_nets c (length (outs.terms nfa tables spec))) fixed_driven second_driven) first_driven))
      ((is_netlist nfa tables automaton spec).first_order.complete n lt)

  -- ---- all

  pub is_known : IsKnownByReset net 1
  is_known = record {
    first =
        All-from_recursion (λ (x : Transfer). x.clock ≡ Phi1 → is_known_in net 1 x.from ≡ true) (array_transfers c)
        (each_transfer c (few nfa tables automaton spec) (λ (x : Transfer). x.clock ≡ Phi1 → is_known_in net 1 x.from ≡ true) (λ p lt e. sum_known p lt) (λ p lt e. absurd (cc))
        (λ e. or_left (is_known_in net 0 (reset_net c)) _ (or_left (is_fixed net.pads (reset_net c)) _ reset_fixed)) (λ e. absurd (cc)));
    second =
        All-from_recursion (λ (x : Transfer). x.clock ≡ Phi2 → follows_store net x.from ≡ true) (array_transfers c)
        (each_transfer c (few nfa tables automaton spec) (λ (x : Transfer). x.clock ≡ Phi2 → follows_store net x.from ≡ true) (λ p lt e. absurd (cc))
        (λ p lt e.
        stores (inverse_net c p) (master_net c p) (outs.inverse_in nfa tables spec p lt) (outs.inverse_nor nfa tables spec p lt).output
        (target Phi1 (first_transfer c p) (values.first_in nfa tables automaton spec p lt) refl))
        (λ e. absurd (cc))
        (λ e.
        stores (start_inverse_net c) (start_master_net c) (outs.start_in nfa tables spec) (outs.start_nor nfa tables spec).output
        (target Phi1 _ (values.start_first_in nfa tables automaton spec) refl)));
    inputs = λ k d lt j e jl. driven _ (((is_netlist nfa tables automaton spec).gates k d lt).inputs_below j e jl);
    outputs = λ k d lt e. driven _ ((is_netlist nfa tables automaton spec).pads.pads_below k d lt);
  }
    where
      reset_fixed : is_fixed net.pads (reset_net c) ≡ true
      reset_fixed =
          rw (
            ne_eqb 0 (reset_net c) (λ e. omega (arith, e)),
            ne_eqb (ground_net c) (reset_net c) (λ e. omega (arith, e)),
            ne_eqb (phi1_net c) (reset_net c) (λ e. omega (arith, e)),
            ne_eqb (phi2_net c) (reset_net c) (λ e. omega (arith, e)),
            eq-eqb (reset_net c) (reset_net c) refl,
          )
          refl
