-- Tables of trees: their order, and the summaries of their nodes.
use Rattle.std.proofs.Common.{◌≡◌, ◌∙◌, ◌⊎◌, ℕ, ◌+◌, ◌<◌, ◌≤◌, Bool, true, false, ◌&&◌, ◌||◌, if◌then◌else◌, List, [], ◌∷◌, ◌++◌, length, bit_or, All, slice_get, Some, refl, sym, ap, subst, inl, inr, arith, length-append}
use Rattle.std.proofs.lemmas.Bool.{cases_order}
use Rattle.std.proofs.lemmas.List.{get_or_append_left}
use Rattle.std.proofs.lemmas.Option.{slice_get-get_or}
use Rattle.std.proofs.Math.Seq.{get_or-append_seam}
use Rattle.star_normal.specs.declared.node.Node.{Node}
use Rattle.star_normal.specs.declared.node.NodeKind.{NodeKind}
use Rattle.star_normal.specs.declared.node.NodeKind.TheVariants.{Leaf, Seq, Alt}
use Rattle.star_normal.specs.Trees.{flags}
use Rattle.star_normal.specs.Sizes.{size_at, AreSizes}
use Rattle.star_normal.specs.Tables.{TreeTable, IsTree, parts, plain_node, flags_of, form_at, form_by, forms}
use Rattle.position_nfa.specs.declared.summaries.Summary.{Summary}
use Rattle.position_nfa.specs.Automaton.{has_output}
use Rattle.position_nfa.specs.LeafRows.{empties}
use Rattle.position_nfa.specs.Summaries.{PartsAreBelow, AreFrontSummaries, node_at, summary_at, mask_within, empty_mask}
use Rattle.position_nfa.specs.Waiting.{AreOrdered}
use Rattle.position_nfa.proofs.NodeForms.{node_form, form_flags}
use Rattle.position_nfa.proofs.Masks.{or_has, none_has, if_has}

parts_below : (k : ℕ) (kind : NodeKind) → All (λ child. child < k) (parts kind) → PartsAreBelow k kind
parts_below k (Leaf s) h = tt
parts_below k (Seq l r) h = (h 0 0 (omega arith), h 1 0 (omega arith))
parts_below k (Alt l r) h = (h 0 0 (omega arith), h 1 0 (omega arith))

pub ordered : (table : TreeTable) → IsTree table → AreOrdered table.nodes
ordered table t k h =
    parts_below k (node_at table.nodes k).kind (t.children_before k (node_at table.nodes k) (slice_get-get_or table.nodes k (plain_node (Leaf 0) false) h))

pub below_all : (n m : ℕ) (kind : NodeKind) → n ≤ m → PartsAreBelow n kind → PartsAreBelow m kind
below_all n m (Leaf s) le h = tt
below_all n m (Seq l r) le h = (omega (arith, h.0), omega (arith, h.1))
below_all n m (Alt l r) le h = (omega (arith, h.0), omega (arith, h.1))

module _ (nodes : List Node) (order : AreOrdered nodes) (n : ℕ) (lt : n < length nodes) (before : List Summary) (sums : AreFrontSummaries nodes n before) where
  abbrev tree_of : ℕ → ℕ → Bool
  tree_of k y = empties (form_at (forms nodes) k) y

  pair_bit : (l r y : ℕ) → l < n → r < n → has_output (bit_or (summary_at before l).empties (summary_at before r).empties) y ≡ (tree_of l y || tree_of r y)
  pair_bit l r y hl hr =
      or_has (summary_at before l).empties (summary_at before r).empties y
      ∙ ap (λ b. b || has_output (summary_at before r).empties y) (sums.empties l y hl)
      ∙ ap (λ b. tree_of l y || b) (sums.empties r y hr)

  seq_bit : (l r y : ℕ) → l < n → r < n → has_output (bit_or (summary_at before l).empties (if (node_at nodes l).eps then (summary_at before r).empties else 0)) y
      ≡ (tree_of l y || ((flags (form_at (forms nodes) l)).eps && tree_of r y))
  seq_bit l r y hl hr =
      let e : (flags (form_at (forms nodes) l)).eps ≡ (node_at nodes l).eps = ap (λ f. f.eps) (form_flags nodes order l (omega arith)) in
      or_has (summary_at before l).empties (if (node_at nodes l).eps then (summary_at before r).empties else 0) y
      ∙ ap (λ b. b || has_output (if (node_at nodes l).eps then (summary_at before r).empties else 0) y) (sums.empties l y hl)
      ∙ ap (λ b. tree_of l y || b) (if_has (node_at nodes l).eps (summary_at before r).empties y ∙ ap (λ b. (node_at nodes l).eps && b) (sums.empties r y hr) ∙ ap (λ b. b && tree_of r y) (sym e))

  mask_by : (kind : NodeKind) (node : Node) (y : ℕ) → PartsAreBelow n kind
      → has_output (bit_or (mask_within nodes before kind) node.eps_marks) y ≡ empties (form_by (forms nodes) (flags_of node) kind) y
  mask_by (Leaf s) node y h = or_has 0 node.eps_marks y ∙ ap (λ b. b || has_output node.eps_marks y) (none_has y)
  mask_by (Seq l r) node y h = or_has (mask_within nodes before (Seq l r)) node.eps_marks y ∙ ap (λ b. b || has_output node.eps_marks y) (seq_bit l r y h.0 h.1)
  mask_by (Alt l r) node y h = or_has (mask_within nodes before (Alt l r)) node.eps_marks y ∙ ap (λ b. b || has_output node.eps_marks y) (pair_bit l r y h.0 h.1)

  abbrev pub next_summary : Summary
  next_summary = record { leaves = size_at nodes n; empties = empty_mask nodes before (node_at nodes n) }

  next_bit : (y : ℕ) → has_output (empty_mask nodes before (node_at nodes n)) y ≡ tree_of n y
  next_bit y = mask_by (node_at nodes n).kind (node_at nodes n) y (order n lt) ∙ ap (λ t. empties t y) (sym (node_form nodes order n lt))

  here : summary_at (before ++ next_summary ∷ []) n ≡ next_summary
  here = ap (λ k. summary_at (before ++ next_summary ∷ []) k) (sym sums.size) ∙ get_or-append_seam before next_summary [] (record { leaves = 0; empties = 0 })

  kept : (k : ℕ) → k < n → summary_at (before ++ next_summary ∷ []) k ≡ summary_at before k
  kept k h = get_or_append_left before (next_summary ∷ []) (record { leaves = 0; empties = 0 }) k (omega (arith, sums.size))

  leaves_by : (k : ℕ) → k < n + 1 → (k ≡ n) ⊎ ((k < n) ⊎ (n < k)) → (summary_at (before ++ next_summary ∷ []) k).leaves ≡ size_at nodes k
  leaves_by k h (inl e) = rw e (ap (λ s. s.leaves) here)
  leaves_by k h (inr (inl lt)) = ap (λ s. s.leaves) (kept k lt) ∙ sums.leaves k lt
  leaves_by k h (inr (inr gt)) = absurd (omega arith)

  empties_by : (k y : ℕ) → k < n + 1 → (k ≡ n) ⊎ ((k < n) ⊎ (n < k)) → has_output (summary_at (before ++ next_summary ∷ []) k).empties y ≡ tree_of k y
  empties_by k y h (inl e) = rw e (ap (λ s. has_output s.empties y) here ∙ next_bit y)
  empties_by k y h (inr (inl lt)) = ap (λ s. has_output s.empties y) (kept k lt) ∙ sums.empties k y lt
  empties_by k y h (inr (inr gt)) = absurd (omega arith)

  pub summary_next : AreFrontSummaries nodes (n + 1) (before ++ next_summary ∷ [])
  summary_next = record {
    size = omega (arith, sums.size, length-append before (next_summary ∷ []));
    leaves = λ k h. leaves_by k h (cases_order k n);
    empties = λ k y h. empties_by k y h (cases_order k n);
  }
