-- The sums of an automaton's array are NORs of its terms, none of them twice.
use Rattle.std.specs.Prelude.{flat_map}
use Rattle.std.proofs.Common.{◌≡◌, ℕ, ◌+◌, ◌<◌, ◌≤◌, Bool, List, map, length, All, refl, sym, ◌∙◌, arith}
use Rattle.std.specs.List.{range_with_len}
use Rattle.std.proofs.lemmas.List.Elements.{All-from_recursion}
use Rattle.rx_lang.specs.Positions.{State, Step}
use Rattle.nor_net.specs.Netlist.{NorGate}
use Rattle.position_nfa.specs.declared.array_nets.ArrayCounts.{ArrayCounts}
use Rattle.position_nfa.specs.Automaton.{Automaton, mask_of, has_output}
use Rattle.position_nfa.specs.Registers.{part_nets, term_net, leads_to, step_of, marked_of, sum_net, sum_gate, shared_net, shared_gate, sum_gates}
use Rattle.pla_plan.specs.Fits.{IsPlaneGate}
use Rattle.pla_plan.proofs.Pieces.{each_append, each_range, each_piece, each_across, all_pairs, pairs_pieces, chosen, each_chosen, pairs_chosen}

abbrev Differ : ℕ → ℕ → Type 0
Differ a b = a ≡ b → ⊥

-- A gate of some of these nets, which differ, is one of a plane.
module _ (net : ℕ → ℕ) (base count to : ℕ) (within : (k : ℕ) → k < count → (base ≤ net k) × (net k < to))
    (apart : (i j : ℕ) → i < j → net i ≡ net j → ⊥) (b : ℕ → Bool) where
  abbrev inputs : List ℕ
  inputs = flat_map (λ k. chosen (b k) (net k)) (range_with_len 0 count)

  pub some_fine : (out : ℕ) → IsPlaneGate base to (record { out = out; inputs = inputs })
  some_fine out = record {
    inputs = All-from_recursion (λ n. (base ≤ n) × (n < to)) inputs
        (each_piece (λ n. (base ≤ n) × (n < to)) (λ k. chosen (b k) (net k)) 0 count
        (λ k l lt. each_chosen (λ n. (base ≤ n) × (n < to)) (b k) (net k) (within k (omega arith))));
    distinct = all_pairs Differ inputs
        (pairs_pieces Differ (λ k. chosen (b k) (net k)) 0 count (λ k l lt. pairs_chosen Differ (b k) (net k))
        (λ i j l m lt. each_across (λ n. n ≡ net i) (λ n. n ≡ net j) Differ (λ x y p q e. apart i j m (sym p ∙ e ∙ q)) (chosen (b i) (net i)) (chosen (b j) (net j))
        (each_chosen (λ n. n ≡ net i) (b i) (net i) refl) (each_chosen (λ n. n ≡ net j) (b j) (net j) refl)));
  }

module _ (c : ArrayCounts) (nfa : Automaton) (going : List Step) (marked : List State) (to : ℕ)
    (within : part_nets c + (length going + length marked) ≤ to) where
  sum_fine : (p : ℕ) → IsPlaneGate (part_nets c) to (sum_gate c nfa going p)
  sum_fine p =
      some_fine (term_net c) (part_nets c) (length going) to (λ k lt. (omega arith, omega arith)) (λ i j l e. omega arith)
      (λ k. leads_to nfa p (step_of going k)) (sum_net c p)

  shared_fine : (y : ℕ) → IsPlaneGate (part_nets c) to (shared_gate c nfa (length going) marked y)
  shared_fine y =
      some_fine (λ k. term_net c (length going + k)) (part_nets c) (length marked) to (λ k lt. (omega arith, omega arith)) (λ i j l e. omega arith)
      (λ k. has_output (mask_of nfa (marked_of marked k)) y) (shared_net c y)

  pub sums_fine : All (IsPlaneGate (part_nets c) to) (sum_gates c nfa going marked)
  sums_fine =
      All-from_recursion (IsPlaneGate (part_nets c) to) (sum_gates c nfa going marked)
      (each_append (IsPlaneGate (part_nets c) to) (map (sum_gate c nfa going) (range_with_len 0 c.positions))
      (map (shared_gate c nfa (length going) marked) (range_with_len 0 c.outputs))
      (each_range (IsPlaneGate (part_nets c) to) (sum_gate c nfa going) 0 c.positions (λ p l lt. sum_fine p))
      (each_range (IsPlaneGate (part_nets c) to) (shared_gate c nfa (length going) marked) 0 c.outputs (λ y l lt. shared_fine y)))

  pub sums_below : All (λ (sum : NorGate). sum.out < part_nets c) (sum_gates c nfa going marked)
  sums_below =
      All-from_recursion (λ (sum : NorGate). sum.out < part_nets c) (sum_gates c nfa going marked)
      (each_append (λ (sum : NorGate). sum.out < part_nets c) (map (sum_gate c nfa going) (range_with_len 0 c.positions))
      (map (shared_gate c nfa (length going) marked) (range_with_len 0 c.outputs))
      (each_range (λ (sum : NorGate). sum.out < part_nets c) (sum_gate c nfa going) 0 c.positions (λ p l lt. omega arith))
      (each_range (λ (sum : NorGate). sum.out < part_nets c) (shared_gate c nfa (length going) marked) 0 c.outputs (λ y l lt. omega arith)))
