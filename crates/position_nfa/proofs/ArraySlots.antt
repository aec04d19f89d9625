-- The nets of the array by banks, and its orders of evaluation by slots.
use Rattle.std.specs.Prelude.{flat_map}
use Rattle.std.proofs.Common.{◌≡◌, ◌≢◌, ℕ, zero, suc, ◌+◌, ◌*◌, ◌<◌, Bool, true, false, List, [], ◌∷◌, ◌++◌, append_assoc, map, length, All, AllPairs, Contains, refl, ap, sym, subst, ◌∙◌, arith}
use Rattle.std.specs.List.{AllByRecursion, range_with_len, list_any}
use Rattle.std.proofs.lemmas.List.{append-nil}
use Rattle.std.proofs.lemmas.List.Concat.{flat_map-append}
use Rattle.std.proofs.lemmas.List.Elements.{All-from_recursion}
use Rattle.nor_net.specs.Netlist.{place}
use Rattle.position_nfa.specs.declared.array_nets.ArrayCounts.{ArrayCounts}
use Rattle.position_nfa.specs.Registers.{line_net, complement_net, state_net, start_net, reset_net, ground_net, master_net, sum_net, inverse_net, stored_net, shared_net, output_net, phi1_net, phi2_net, start_master_net, start_inverse_net, part_nets, term_net, fixed_nets, first_nets, second_nets}
use Rattle.position_nfa.proofs.Adding.{map_ext}
use Rattle.position_nfa.proofs.Ranges.{Pairs, all_pairs}
use Rattle.position_nfa.proofs.Banks.{Bank, Slot, slot, is_slot, number, total, width_of, rows_of, name_of, nets_of, ordered, IsOf, order_below, order_distinct, order_has, precedes, places_rise}
use Rattle.position_nfa.proofs.Slots.{fit, slots_fit, differ, slots_apart, covered, covers}

abbrev bank : ℕ → ℕ → Bank
bank w n = record { width = w; rows = n }

abbrev pub banks : ArrayCounts → ℕ → List Bank
banks c t =
    bank 1 1 ∷ bank 1 c.lines ∷ bank 1 c.lines ∷ bank 1 c.positions ∷ bank 3 1 ∷ bank 4 c.positions ∷ bank 2 c.outputs ∷ bank 4 1 ∷ bank 1 t ∷ []

abbrev pub vdd : Slot
vdd = slot 0 0

abbrev pub line : Slot
line = slot 1 0

abbrev pub complement : Slot
complement = slot 2 0

abbrev pub state : Slot
state = slot 3 0

abbrev pub begin : Slot
begin = slot 4 0

abbrev pub reset : Slot
reset = slot 4 1

abbrev pub ground : Slot
ground = slot 4 2

abbrev pub master : Slot
master = slot 5 0

abbrev pub sum : Slot
sum = slot 5 1

abbrev pub inverse : Slot
inverse = slot 5 2

abbrev pub stored : Slot
stored = slot 5 3

abbrev pub shared : Slot
shared = slot 6 0

abbrev pub output : Slot
output = slot 6 1

abbrev pub phi1 : Slot
phi1 = slot 7 0

abbrev pub phi2 : Slot
phi2 = slot 7 1

abbrev pub begin_master : Slot
begin_master = slot 7 2

abbrev pub begin_inverse : Slot
begin_inverse = slot 7 3

abbrev pub term : Slot
term = slot 8 0

abbrev pub fixed_slots : List Slot
fixed_slots = vdd ∷ ground ∷ phi1 ∷ phi2 ∷ reset ∷ line ∷ []

abbrev pub first_slots : List Slot
first_slots = master ∷ begin_master ∷ inverse ∷ begin_inverse ∷ []

abbrev pub second_slots : List Slot
second_slots = stored ∷ begin ∷ complement ∷ state ∷ term ∷ sum ∷ shared ∷ output ∷ []

-- under PHI1 and under PHI2
abbrev pub slots1 : List Slot
slots1 = fixed_slots ++ second_slots ++ first_slots

abbrev pub slots2 : List Slot
slots2 = fixed_slots ++ first_slots ++ second_slots

-- pieces from the left and from the right
abbrev pub lefts : List ℕ → List (List ℕ) → List ℕ
lefts before [] = before
lefts before (xs ∷ pieces) = lefts (before ++ xs) pieces

abbrev pub rights : List (List ℕ) → List ℕ
rights [] = []
rights (xs ∷ pieces) = xs ++ rights pieces

pub lefts_rights : (before : List ℕ) (pieces : List (List ℕ)) → lefts before pieces ≡ before ++ rights pieces
lefts_rights before [] = sym (append-nil before)
lefts_rights before (xs ∷ pieces) = lefts_rights (before ++ xs) pieces ∙ append_assoc before xs (rights pieces)

pub both : {a b c d : List ℕ} → a ≡ b → c ≡ d → a ++ c ≡ b ++ d
both e f = rw (e, f) refl

module _ (c : ArrayCounts) (t : ℕ) where
  abbrev pub ks : List Bank
  ks = banks c t

  -- ---- each net has its slot

  pub of_vdd : IsOf ks vdd 0
  of_vdd = record { row = 0; in_width = omega arith; in_rows = omega arith; is = omega arith }

  pub of_line : (i : ℕ) → i < c.lines → IsOf ks line (line_net c i)
  of_line i lt = record { row = i; in_width = omega arith; in_rows = lt; is = omega arith }

  pub of_complement : (i : ℕ) → i < c.lines → IsOf ks complement (complement_net c i)
  of_complement i lt = record { row = i; in_width = omega arith; in_rows = lt; is = omega arith }

  pub of_state : (p : ℕ) → p < c.positions → IsOf ks state (state_net c p)
  of_state p lt = record { row = p; in_width = omega arith; in_rows = lt; is = omega arith }

  pub of_begin : IsOf ks begin (start_net c)
  of_begin = record { row = 0; in_width = omega arith; in_rows = omega arith; is = omega arith }

  pub of_reset : IsOf ks reset (reset_net c)
  of_reset = record { row = 0; in_width = omega arith; in_rows = omega arith; is = omega arith }

  pub of_ground : IsOf ks ground (ground_net c)
  of_ground = record { row = 0; in_width = omega arith; in_rows = omega arith; is = omega arith }

  pub of_master : (p : ℕ) → p < c.positions → IsOf ks master (master_net c p)
  of_master p lt = record { row = p; in_width = omega arith; in_rows = lt; is = omega arith }

  pub of_sum : (p : ℕ) → p < c.positions → IsOf ks sum (sum_net c p)
  of_sum p lt = record { row = p; in_width = omega arith; in_rows = lt; is = omega arith }

  pub of_inverse : (p : ℕ) → p < c.positions → IsOf ks inverse (inverse_net c p)
  of_inverse p lt = record { row = p; in_width = omega arith; in_rows = lt; is = omega arith }

  pub of_stored : (p : ℕ) → p < c.positions → IsOf ks stored (stored_net c p)
  of_stored p lt = record { row = p; in_width = omega arith; in_rows = lt; is = omega arith }

  pub of_shared : (y : ℕ) → y < c.outputs → IsOf ks shared (shared_net c y)
  of_shared y lt = record { row = y; in_width = omega arith; in_rows = lt; is = omega arith }

  pub of_output : (y : ℕ) → y < c.outputs → IsOf ks output (output_net c y)
  of_output y lt = record { row = y; in_width = omega arith; in_rows = lt; is = omega arith }

  pub of_phi1 : IsOf ks phi1 (phi1_net c)
  of_phi1 = record { row = 0; in_width = omega arith; in_rows = omega arith; is = omega arith }

  pub of_phi2 : IsOf ks phi2 (phi2_net c)
  of_phi2 = record { row = 0; in_width = omega arith; in_rows = omega arith; is = omega arith }

  pub of_begin_master : IsOf ks begin_master (start_master_net c)
  of_begin_master = record { row = 0; in_width = omega arith; in_rows = omega arith; is = omega arith }

  pub of_begin_inverse : IsOf ks begin_inverse (start_inverse_net c)
  of_begin_inverse = record { row = 0; in_width = omega arith; in_rows = omega arith; is = omega arith }

  pub of_term : (k : ℕ) → k < t → IsOf ks term (term_net c k)
  of_term k lt = record { row = k; in_width = omega arith; in_rows = lt; is = omega arith }

  pub whole : total ks ≡ part_nets c + t
  whole = omega arith

  -- ---- and each slot its nets

  run : (net : ℕ → ℕ) (s : Slot) → ((i : ℕ) → number ks s.bank s.column i ≡ net i) → nets_of ks s ≡ map net (range_with_len 0 (rows_of ks s.bank))
  run net s h = map_ext (number ks s.bank s.column) net h (range_with_len 0 (rows_of ks s.bank))

  one : (net : ℕ) (a : ℕ) → a ≡ net → a ∷ [] ≡ net ∷ []
  one net a e = ap (λ (x : ℕ). x ∷ []) e

  pub lines_are : nets_of ks line ≡ map (line_net c) (range_with_len 0 c.lines)
  lines_are = run (line_net c) line (λ i. omega arith)

  pub complements_are : nets_of ks complement ≡ map (complement_net c) (range_with_len 0 c.lines)
  complements_are = run (complement_net c) complement (λ i. omega arith)

  pub states_are : nets_of ks state ≡ map (state_net c) (range_with_len 0 c.positions)
  states_are = run (state_net c) state (λ i. omega arith)

  pub masters_are : nets_of ks master ≡ map (master_net c) (range_with_len 0 c.positions)
  masters_are = run (master_net c) master (λ i. omega arith)

  pub sums_are : nets_of ks sum ≡ map (sum_net c) (range_with_len 0 c.positions)
  sums_are = run (sum_net c) sum (λ i. omega arith)

  pub inverses_are : nets_of ks inverse ≡ map (inverse_net c) (range_with_len 0 c.positions)
  inverses_are = run (inverse_net c) inverse (λ i. omega arith)

  pub stored_are : nets_of ks stored ≡ map (stored_net c) (range_with_len 0 c.positions)
  stored_are = run (stored_net c) stored (λ i. omega arith)

  pub shared_are : nets_of ks shared ≡ map (shared_net c) (range_with_len 0 c.outputs)
  shared_are = run (shared_net c) shared (λ i. omega arith)

  pub outputs_are : nets_of ks output ≡ map (output_net c) (range_with_len 0 c.outputs)
  outputs_are = run (output_net c) output (λ i. omega arith)

  pub terms_are : nets_of ks term ≡ map (term_net c) (range_with_len 0 t)
  terms_are = run (term_net c) term (λ i. omega arith)

  pub begin_is : nets_of ks begin ≡ start_net c ∷ []
  begin_is = one (start_net c) _ (omega arith)

  pub reset_is : nets_of ks reset ≡ reset_net c ∷ []
  reset_is = one (reset_net c) _ (omega arith)

  pub ground_is : nets_of ks ground ≡ ground_net c ∷ []
  ground_is = one (ground_net c) _ (omega arith)

  pub phi1_is : nets_of ks phi1 ≡ phi1_net c ∷ []
  phi1_is = one (phi1_net c) _ (omega arith)

  pub phi2_is : nets_of ks phi2 ≡ phi2_net c ∷ []
  phi2_is = one (phi2_net c) _ (omega arith)

  pub begin_master_is : nets_of ks begin_master ≡ start_master_net c ∷ []
  begin_master_is = one (start_master_net c) _ (omega arith)

  pub begin_inverse_is : nets_of ks begin_inverse ≡ start_inverse_net c ∷ []
  begin_inverse_is = one (start_inverse_net c) _ (omega arith)

  vdd_is : nets_of ks vdd ≡ 0 ∷ []
  vdd_is = one 0 _ (omega arith)

  fixed_are : ordered ks fixed_slots ≡ fixed_nets c
  fixed_are =
      both vdd_is (both ground_is (both phi1_is (both phi2_is (both reset_is (both lines_are refl)))))
      ∙ ap (λ (xs : List ℕ). 0 ∷ ground_net c ∷ phi1_net c ∷ phi2_net c ∷ reset_net c ∷ xs) (append-nil (map (line_net c) (range_with_len 0 c.lines)))

  first_are : ordered ks first_slots ≡ first_nets c
  first_are =
      both masters_are (both begin_master_is (both inverses_are (both begin_inverse_is refl)))
      ∙ sym (lefts_rights (map (master_net c) (range_with_len 0 c.positions))
      ((start_master_net c ∷ []) ∷ map (inverse_net c) (range_with_len 0 c.positions) ∷ (start_inverse_net c ∷ []) ∷ []))

  second_are : ordered ks second_slots ≡ second_nets c t
  second_are =
      both stored_are (both begin_is (both complements_are (both states_are (both terms_are (both sums_are (both shared_are (both outputs_are refl)))))))
      ∙ sym (lefts_rights (map (stored_net c) (range_with_len 0 c.positions))
      ((start_net c ∷ []) ∷ map (complement_net c) (range_with_len 0 c.lines) ∷ map (state_net c) (range_with_len 0 c.positions) ∷ map (term_net c) (range_with_len 0 t)
      ∷ map (sum_net c) (range_with_len 0 c.positions) ∷ map (shared_net c) (range_with_len 0 c.outputs) ∷ map (output_net c) (range_with_len 0 c.outputs) ∷ []))

  pub order1_is : ordered ks slots1 ≡ fixed_nets c ++ second_nets c t ++ first_nets c
  order1_is =
      flat_map-append (nets_of ks) (fixed_slots ++ second_slots) first_slots
      ∙ both (flat_map-append (nets_of ks) fixed_slots second_slots ∙ both fixed_are second_are) first_are

  pub order2_is : ordered ks slots2 ≡ fixed_nets c ++ first_nets c ++ second_nets c t
  order2_is =
      flat_map-append (nets_of ks) (fixed_slots ++ first_slots) second_slots
      ∙ both (flat_map-append (nets_of ks) fixed_slots first_slots ∙ both fixed_are first_are) second_are

  -- ---- orders

  pub fit1 : AllByRecursion (λ (s : Slot). s.column < width_of ks s.bank) slots1
  fit1 = slots_fit ks slots1 refl

  pub fit2 : AllByRecursion (λ (s : Slot). s.column < width_of ks s.bank) slots2
  fit2 = slots_fit ks slots2 refl

  complete : (slots : List Slot) → covered 0 ks slots ≡ true → (net : ℕ) → net < total ks → Contains (ordered ks slots) net
  complete slots h net lt =
      let name = name_of ks net lt in
      let zero_more : 0 + name.bank ≡ name.bank = omega arith in
      order_has ks slots (slot name.bank name.column) net
      (subst (λ b. list_any (λ s. is_slot s (slot b name.column)) slots ≡ true) zero_more (covers 0 ks slots name.bank name.column h name.in_width))
      (record { row = name.row; in_width = name.in_width; in_rows = name.in_rows; is = sym name.is })

  pub complete1 : (net : ℕ) → net < total ks → Contains (ordered ks slots1) net
  complete1 = complete slots1 refl

  pub complete2 : (net : ℕ) → net < total ks → Contains (ordered ks slots2) net
  complete2 = complete slots2 refl

  pub distinct1 : AllPairs (λ (a b : ℕ). a ≢ b) (ordered ks slots1)
  distinct1 = all_pairs (λ (a b : ℕ). a ≢ b) (ordered ks slots1) (order_distinct ks slots1 fit1 (slots_apart slots1 refl))

  pub distinct2 : AllPairs (λ (a b : ℕ). a ≢ b) (ordered ks slots2)
  distinct2 = all_pairs (λ (a b : ℕ). a ≢ b) (ordered ks slots2) (order_distinct ks slots2 fit2 (slots_apart slots2 refl))

  pub below1 : All (λ net. net < total ks) (ordered ks slots1)
  below1 = All-from_recursion (λ net. net < total ks) (ordered ks slots1) (order_below ks slots1 fit1)

  pub below2 : All (λ net. net < total ks) (ordered ks slots2)
  below2 = All-from_recursion (λ net. net < total ks) (ordered ks slots2) (order_below ks slots2 fit2)

  pub rises1 : (s d : Slot) (a b : ℕ) → precedes slots1 s d ≡ true → IsOf ks s a → IsOf ks d b → place (ordered ks slots1) a < place (ordered ks slots1) b
  rises1 s d a b p h k = places_rise ks slots1 s d a b fit1 p h k

  pub rises2 : (s d : Slot) (a b : ℕ) → precedes slots2 s d ≡ true → IsOf ks s a → IsOf ks d b → place (ordered ks slots2) a < place (ordered ks slots2) b
  rises2 s d a b p h k = places_rise ks slots2 s d a b fit2 p h k
