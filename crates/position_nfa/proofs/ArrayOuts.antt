-- Every gate of the registers drives a net of its own.
use Rattle.std.specs.Prelude.{flat_map}
use Rattle.std.proofs.Common.{◌≡◌, ◌≢◌, inl, inr, ℕ, zero, suc, ◌+◌, ◌<◌, ◌≤◌, Bool, true, List, [], ◌∷◌, ◌++◌, append_assoc, map, length, Contains, refl, ap, sym, subst, ◌∙◌, arith}
use Rattle.std.specs.List.{range_with_len}
use Rattle.std.proofs.lemmas.Bool.{cases_eq}
use Rattle.std.proofs.lemmas.List.{map-append}
use Rattle.std.proofs.lemmas.List.Elements.{Contains-append_left, Contains-append_right}
use Rattle.rx_lang.specs.Tables.{Tables, IsSpecification}
use Rattle.nor_net.specs.Netlist.{NorGate}
use Rattle.rx_lang.specs.Positions.{State, Step}
use Rattle.position_nfa.specs.declared.array_nets.ArrayCounts.{ArrayCounts}
use Rattle.position_nfa.specs.Automaton.{Automaton}
use Rattle.position_nfa.specs.Registers.{line_net, complement_net, state_net, master_net, sum_net, inverse_net, stored_net, shared_net, output_net, start_master_net, start_inverse_net, term_net, step_gate, mark_gate, sum_gate, shared_gate, inverter, part_gates, registers_of}
use Rattle.position_nfa.proofs.Adding.{map_ext}
use Rattle.position_nfa.proofs.Ranges.{Pairs}
use Rattle.position_nfa.proofs.Banks.{Bank, Slot, ordered, order_distinct}
use Rattle.position_nfa.proofs.Slots.{slots_fit, slots_apart}
use Rattle.position_nfa.proofs.ArraySlots as slots
use Rattle.position_nfa.proofs.ArraySlots.{banks, complement, state, sum, inverse, shared, output, begin_inverse, term, lefts_rights, both}
use Rattle.position_nfa.proofs.ArrayGates as array
use Rattle.position_nfa.proofs.Nors.{IsNor, OutsApart, nor_in, pairs_by}

abbrev out_of : NorGate → ℕ
out_of g = g.out

image : (f : ℕ → NorGate) (net : ℕ → ℕ) (a n : ℕ) → ((k : ℕ) → out_of (f k) ≡ net k) → map out_of (map f (range_with_len a n)) ≡ map net (range_with_len a n)
image f net a zero h = refl
image f net a (suc n) h = rw (h a, image f net (a + 1) n h) refl

-- the numbers from one on, counted from 0
shifted : (f : ℕ → ℕ) (a j n : ℕ) → map f (range_with_len (a + j) n) ≡ map (λ k. f (a + k)) (range_with_len j n)
shifted f a j zero = refl
shifted f a j (suc n) =
    let next : a + j + 1 ≡ a + (j + 1) = omega arith in
    ap (λ (xs : List ℕ). f (a + j) ∷ xs) (rw next (shifted f a (j + 1) n))

split : (f : ℕ → ℕ) (a s n : ℕ) → map f (range_with_len a (s + n)) ≡ map f (range_with_len a s) ++ map f (range_with_len (a + s) n)
split f a zero n = let e : 0 + n ≡ n = omega arith in let g : a + 0 ≡ a = omega arith in rw (e, g) refl
split f a (suc s) n =
    let e : suc s + n ≡ suc (s + n) = omega arith in
    let g : a + suc s ≡ a + 1 + s = omega arith in
    rw (e, g) (ap (λ (xs : List ℕ). f a ∷ xs) (split f (a + 1) s n))

abbrev pub out_slots : List Slot
out_slots = term ∷ sum ∷ shared ∷ complement ∷ inverse ∷ state ∷ output ∷ begin_inverse ∷ []

abbrev part_slots : List Slot
part_slots = complement ∷ inverse ∷ state ∷ output ∷ begin_inverse ∷ []

pub range_contains : {X : Type 0} (f : ℕ → X) (a n i : ℕ) → a ≤ i → i < a + n → Contains (map f (range_with_len a n)) (f i)
range_contains f a zero i l lt = absurd (omega arith)
range_contains f a (suc n) i l lt =
    elim (cases_eq a i) [
      | inl e ↦ (0, omega arith, ap f e)
      | inr ne ↦ Contains-append_right (f a ∷ []) (map f (range_with_len (a + 1) n)) (f i) (range_contains f (a + 1) n i (omega (arith, ne)) (omega arith))
    ]

module _ (c : ArrayCounts) (t : ℕ) where
  abbrev ks0 : List Bank
  ks0 = banks c t

  abbrev c1 : List NorGate
  c1 = map (λ i. inverter (complement_net c i) (line_net c i)) (range_with_len 0 c.lines)

  abbrev c2 : List NorGate
  c2 = map (λ p. inverter (inverse_net c p) (master_net c p)) (range_with_len 0 c.positions)

  abbrev c3 : List NorGate
  c3 = map (λ p. inverter (state_net c p) (stored_net c p)) (range_with_len 0 c.positions)

  abbrev c4 : List NorGate
  c4 = map (λ y. inverter (output_net c y) (shared_net c y)) (range_with_len 0 c.outputs)

  abbrev c5 : List NorGate
  c5 = inverter (start_inverse_net c) (start_master_net c) ∷ []

  pub part_outs : map out_of (part_gates c) ≡ ordered ks0 part_slots
  part_outs =
      (map-append out_of (((c1 ++ c2) ++ c3) ++ c4) c5
      ∙ both (map-append out_of ((c1 ++ c2) ++ c3) c4 ∙ both (map-append out_of (c1 ++ c2) c3 ∙ both (map-append out_of c1 c2 ∙ both o1 o2) o3) o4) refl)
      ∙ lefts_rights (map (complement_net c) (range_with_len 0 c.lines))
      (map (inverse_net c) (range_with_len 0 c.positions) ∷ map (state_net c) (range_with_len 0 c.positions) ∷ map (output_net c) (range_with_len 0 c.outputs)
      ∷ (start_inverse_net c ∷ []) ∷ [])
      ∙ sym (both (slots.complements_are c t) (both (slots.inverses_are c t) (both (slots.states_are c t) (both (slots.outputs_are c t) (both (slots.begin_inverse_is c t) refl)))))
    where
      o1 : map out_of c1 ≡ map (complement_net c) (range_with_len 0 c.lines)
      o1 = image (λ i. inverter (complement_net c i) (line_net c i)) (complement_net c) 0 c.lines (λ k. refl)

      o2 : map out_of c2 ≡ map (inverse_net c) (range_with_len 0 c.positions)
      o2 = image (λ p. inverter (inverse_net c p) (master_net c p)) (inverse_net c) 0 c.positions (λ k. refl)

      o3 : map out_of c3 ≡ map (state_net c) (range_with_len 0 c.positions)
      o3 = image (λ p. inverter (state_net c p) (stored_net c p)) (state_net c) 0 c.positions (λ k. refl)

      o4 : map out_of c4 ≡ map (output_net c) (range_with_len 0 c.outputs)
      o4 = image (λ y. inverter (output_net c y) (shared_net c y)) (output_net c) 0 c.outputs (λ k. refl)

  pub part_outs_apart : Pairs (λ (a b : ℕ). a ≢ b) (map out_of (part_gates c))
  part_outs_apart = rw part_outs (order_distinct ks0 part_slots (slots_fit ks0 part_slots refl) (slots_apart part_slots refl))

module _ (nfa : Automaton) (tables : Tables) (spec : IsSpecification tables) where
  abbrev c : ArrayCounts
  c = array.c nfa tables spec

  abbrev going : List Step
  going = array.going nfa tables spec

  abbrev marked : List State
  marked = array.marked nfa tables spec

  abbrev t : ℕ
  t = array.t nfa tables spec

  abbrev ks : List Bank
  ks = array.ks nfa tables spec

  abbrev pub terms : List NorGate
  terms = (registers_of nfa tables).terms

  abbrev pub sums : List NorGate
  sums = (registers_of nfa tables).sums

  abbrev pub gates : List NorGate
  gates = terms ++ sums ++ part_gates c

  -- ---- outs in order

  term_outs : map out_of terms ≡ map (term_net c) (range_with_len 0 t)
  term_outs =
      map-append out_of (map (step_gate c tables.symbols going) (range_with_len 0 (length going))) (map (mark_gate c (length going) marked) (range_with_len 0 (length marked)))
      ∙ both (image (step_gate c tables.symbols going) (term_net c) 0 (length going) (λ k. refl))
      (image (mark_gate c (length going) marked) (λ k. term_net c (length going + k)) 0 (length marked) (λ k. refl))
      ∙ sym (split (term_net c) 0 (length going) (length marked)
      ∙ ap (λ (xs : List ℕ). map (term_net c) (range_with_len 0 (length going)) ++ xs)
      (let e : 0 + length going ≡ length going + 0 = omega arith in rw e (shifted (term_net c) (length going) 0 (length marked))))

  sum_outs : map out_of sums ≡ map (sum_net c) (range_with_len 0 c.positions) ++ map (shared_net c) (range_with_len 0 c.outputs)
  sum_outs =
      map-append out_of (map (sum_gate c nfa going) (range_with_len 0 c.positions)) (map (shared_gate c nfa (length going) marked) (range_with_len 0 c.outputs))
      ∙ both (image (sum_gate c nfa going) (sum_net c) 0 c.positions (λ k. refl)) (image (shared_gate c nfa (length going) marked) (shared_net c) 0 c.outputs (λ k. refl))

  outs_are : map out_of gates ≡ ordered ks out_slots
  outs_are =
      map-append out_of (terms ++ sums) (part_gates c)
      ∙ both (map-append out_of terms sums ∙ both term_outs sum_outs) (part_outs c t)
      ∙ append_assoc (map (term_net c) (range_with_len 0 t)) (map (sum_net c) (range_with_len 0 c.positions) ++ map (shared_net c) (range_with_len 0 c.outputs)) (ordered ks part_slots)
      ∙ ap (λ (xs : List ℕ). map (term_net c) (range_with_len 0 t) ++ xs)
      (append_assoc (map (sum_net c) (range_with_len 0 c.positions)) (map (shared_net c) (range_with_len 0 c.outputs)) (ordered ks part_slots))
      ∙ sym (both (slots.terms_are c t) (both (slots.sums_are c t) (both (slots.shared_are c t) refl)))

  pub gates_apart : Pairs OutsApart gates
  gates_apart = pairs_by out_of gates (rw outs_are (order_distinct ks out_slots (slots_fit ks out_slots refl) (slots_apart out_slots refl)))

  -- ---- what pulls each

  in_terms : (g : NorGate) → Contains terms g → Contains gates g
  in_terms g h = Contains-append_left (terms ++ sums) (part_gates c) g (Contains-append_left terms sums g h)

  in_sums : (g : NorGate) → Contains sums g → Contains gates g
  in_sums g h = Contains-append_left (terms ++ sums) (part_gates c) g (Contains-append_right terms sums g h)

  in_part : (g : NorGate) → Contains (part_gates c) g → Contains gates g
  in_part g h = Contains-append_right (terms ++ sums) (part_gates c) g h

  pub step_in : (k : ℕ) → k < length going → Contains gates (step_gate c tables.symbols going k)
  step_in k lt =
      in_terms (step_gate c tables.symbols going k)
      (Contains-append_left _ (map (mark_gate c (length going) marked) (range_with_len 0 (length marked))) _
      (range_contains (step_gate c tables.symbols going) 0 (length going) k (omega arith) (omega (arith, lt))))

  pub step_nor : (k : ℕ) → k < length going → IsNor gates (term_net c k) (step_gate c tables.symbols going k).inputs
  step_nor k lt = nor_in gates (step_gate c tables.symbols going k) gates_apart (step_in k lt)

  pub mark_in : (k : ℕ) → k < length marked → Contains gates (mark_gate c (length going) marked k)
  mark_in k lt =
      in_terms (mark_gate c (length going) marked k)
      (Contains-append_right (map (step_gate c tables.symbols going) (range_with_len 0 (length going))) _ _
      (range_contains (mark_gate c (length going) marked) 0 (length marked) k (omega arith) (omega (arith, lt))))

  pub mark_nor : (k : ℕ) → k < length marked → IsNor gates (term_net c (length going + k)) (mark_gate c (length going) marked k).inputs
  mark_nor k lt = nor_in gates (mark_gate c (length going) marked k) gates_apart (mark_in k lt)

  pub sum_in : (p : ℕ) → p < c.positions → Contains gates (sum_gate c nfa going p)
  sum_in p lt =
      in_sums (sum_gate c nfa going p)
      (Contains-append_left _ (map (shared_gate c nfa (length going) marked) (range_with_len 0 c.outputs)) _
      (range_contains (sum_gate c nfa going) 0 c.positions p (omega arith) (omega (arith, lt))))

  pub sum_nor : (p : ℕ) → p < c.positions → IsNor gates (sum_net c p) (sum_gate c nfa going p).inputs
  sum_nor p lt = nor_in gates (sum_gate c nfa going p) gates_apart (sum_in p lt)

  pub shared_in : (y : ℕ) → y < c.outputs → Contains gates (shared_gate c nfa (length going) marked y)
  shared_in y lt =
      in_sums (shared_gate c nfa (length going) marked y)
      (Contains-append_right (map (sum_gate c nfa going) (range_with_len 0 c.positions)) _ _
      (range_contains (shared_gate c nfa (length going) marked) 0 c.outputs y (omega arith) (omega (arith, lt))))

  pub shared_nor : (y : ℕ) → y < c.outputs → IsNor gates (shared_net c y) (shared_gate c nfa (length going) marked y).inputs
  shared_nor y lt = nor_in gates (shared_gate c nfa (length going) marked y) gates_apart (shared_in y lt)

  -- ---- inverters

  pub complement_in : (i : ℕ) → i < c.lines → Contains gates (inverter (complement_net c i) (line_net c i))
  complement_in i lt =
      in_part (inverter (complement_net c i) (line_net c i))
      (Contains-append_left ((((c1 c t) ++ (c2 c t)) ++ (c3 c t)) ++ (c4 c t)) (c5 c t) _ (Contains-append_left (((c1 c t) ++ (c2 c t)) ++ (c3 c t)) (c4 c t) _ (Contains-append_left ((c1 c t) ++ (c2 c t)) (c3 c t) _
      (Contains-append_left (c1 c t) (c2 c t) _ (range_contains (λ i. inverter (complement_net c i) (line_net c i)) 0 c.lines i (omega arith) (omega (arith, lt)))))))

  pub complement_nor : (i : ℕ) → i < c.lines → IsNor gates (complement_net c i) (line_net c i ∷ [])
  complement_nor i lt = nor_in gates (inverter (complement_net c i) (line_net c i)) gates_apart (complement_in i lt)

  pub inverse_in : (p : ℕ) → p < c.positions → Contains gates (inverter (inverse_net c p) (master_net c p))
  inverse_in p lt =
      in_part (inverter (inverse_net c p) (master_net c p))
      (Contains-append_left ((((c1 c t) ++ (c2 c t)) ++ (c3 c t)) ++ (c4 c t)) (c5 c t) _ (Contains-append_left (((c1 c t) ++ (c2 c t)) ++ (c3 c t)) (c4 c t) _ (Contains-append_left ((c1 c t) ++ (c2 c t)) (c3 c t) _
      (Contains-append_right (c1 c t) (c2 c t) _ (range_contains (λ p. inverter (inverse_net c p) (master_net c p)) 0 c.positions p (omega arith) (omega (arith, lt)))))))

  pub inverse_nor : (p : ℕ) → p < c.positions → IsNor gates (inverse_net c p) (master_net c p ∷ [])
  inverse_nor p lt = nor_in gates (inverter (inverse_net c p) (master_net c p)) gates_apart (inverse_in p lt)

  pub state_in : (p : ℕ) → p < c.positions → Contains gates (inverter (state_net c p) (stored_net c p))
  state_in p lt =
      in_part (inverter (state_net c p) (stored_net c p))
      (Contains-append_left ((((c1 c t) ++ (c2 c t)) ++ (c3 c t)) ++ (c4 c t)) (c5 c t) _ (Contains-append_left (((c1 c t) ++ (c2 c t)) ++ (c3 c t)) (c4 c t) _ (Contains-append_right ((c1 c t) ++ (c2 c t)) (c3 c t) _
      (range_contains (λ p. inverter (state_net c p) (stored_net c p)) 0 c.positions p (omega arith) (omega (arith, lt))))))

  pub state_nor : (p : ℕ) → p < c.positions → IsNor gates (state_net c p) (stored_net c p ∷ [])
  state_nor p lt = nor_in gates (inverter (state_net c p) (stored_net c p)) gates_apart (state_in p lt)

  pub output_in : (y : ℕ) → y < c.outputs → Contains gates (inverter (output_net c y) (shared_net c y))
  output_in y lt =
      in_part (inverter (output_net c y) (shared_net c y))
      (Contains-append_left ((((c1 c t) ++ (c2 c t)) ++ (c3 c t)) ++ (c4 c t)) (c5 c t) _ (Contains-append_right (((c1 c t) ++ (c2 c t)) ++ (c3 c t)) (c4 c t) _
      (range_contains (λ y. inverter (output_net c y) (shared_net c y)) 0 c.outputs y (omega arith) (omega (arith, lt)))))

  pub output_nor : (y : ℕ) → y < c.outputs → IsNor gates (output_net c y) (shared_net c y ∷ [])
  output_nor y lt = nor_in gates (inverter (output_net c y) (shared_net c y)) gates_apart (output_in y lt)

  pub start_in : Contains gates (inverter (start_inverse_net c) (start_master_net c))
  start_in = in_part (inverter (start_inverse_net c) (start_master_net c)) (Contains-append_right ((((c1 c t) ++ (c2 c t)) ++ (c3 c t)) ++ (c4 c t)) (c5 c t) _ (0, omega arith, refl))

  pub start_nor : IsNor gates (start_inverse_net c) (start_master_net c ∷ [])
  start_nor = nor_in gates (inverter (start_inverse_net c) (start_master_net c)) gates_apart (start_in)
