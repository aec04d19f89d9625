-- Some node of a table pulls an output's shared wire exactly where some node of its tree does.
use Rattle.std.proofs.Common.{◌≡◌, ◌⊎◌, ℕ, true, Some, slice_get, inl, inr}
use Rattle.star_normal.specs.declared.node.Node.{Node}
use Rattle.star_normal.specs.Tables.{TreeTable}
use Rattle.cell_network.specs.Cells.{CellValues, SomeCellPulls, pulls}
use Rattle.cell_network.proofs.Placed.{Placed, leaf_at, seq_at, alt_at, IsPlaced, Has}

module _ (v : CellValues) (y : ℕ) where
  abbrev pub PullsAt : ℕ → Node → Type 0
  PullsAt k n = pulls n y (v.inn k) (v.out k) ≡ true

  -- some node of the tree pulls the shared wire of output y
  abbrev pub Pulls : Placed → Type 0
  Pulls (leaf_at k n s) = PullsAt k n
  Pulls (seq_at k n l r) = PullsAt k n ⊎ (Pulls l ⊎ Pulls r)
  Pulls (alt_at k n l r) = PullsAt k n ⊎ (Pulls l ⊎ Pulls r)

  module _ (table : TreeTable) where
    same_node : (k m : ℕ) (n node : Node) → k ≡ m → slice_get table.nodes k ≡ Some n → slice_get table.nodes m ≡ Some node → PullsAt m node → PullsAt k n
    same_node k m n node e here there pulled =
        let moved : slice_get table.nodes k ≡ Some node = rw e there in
        let same : n ≡ node = cc in
        rw (same, e) pulled

    pub node_pulls : (m : ℕ) (node : Node) → slice_get table.nodes m ≡ Some node → PullsAt m node → (p : Placed) → IsPlaced table.nodes p → Has p m → Pulls p
    node_pulls m node there pulled (leaf_at k n s) h e = same_node k m n node e h.here there pulled
    node_pulls m node there pulled (seq_at k n l r) h (inl e) = inl (same_node k m n node e h.0.here there pulled)
    node_pulls m node there pulled (seq_at k n l r) h (inr (inl has)) = inr (inl (node_pulls m node there pulled l h.1 has))
    node_pulls m node there pulled (seq_at k n l r) h (inr (inr has)) = inr (inr (node_pulls m node there pulled r h.2 has))
    node_pulls m node there pulled (alt_at k n l r) h (inl e) = inl (same_node k m n node e h.0.here there pulled)
    node_pulls m node there pulled (alt_at k n l r) h (inr (inl has)) = inr (inl (node_pulls m node there pulled l h.1 has))
    node_pulls m node there pulled (alt_at k n l r) h (inr (inr has)) = inr (inr (node_pulls m node there pulled r h.2 has))

    found : (k : ℕ) (n : Node) → slice_get table.nodes k ≡ Some n → PullsAt k n → SomeCellPulls table v y
    found k n here pulled = record { at = k; node = n; here = here; pulled = pulled }

    pub tree_pulls : (p : Placed) → IsPlaced table.nodes p → Pulls p → SomeCellPulls table v y
    tree_pulls (leaf_at k n s) h pulled = found k n h.here pulled
    tree_pulls (seq_at k n l r) h (inl pulled) = found k n h.0.here pulled
    tree_pulls (seq_at k n l r) h (inr (inl m)) = tree_pulls l h.1 m
    tree_pulls (seq_at k n l r) h (inr (inr m)) = tree_pulls r h.2 m
    tree_pulls (alt_at k n l r) h (inl pulled) = found k n h.0.here pulled
    tree_pulls (alt_at k n l r) h (inr (inl m)) = tree_pulls l h.1 m
    tree_pulls (alt_at k n l r) h (inr (inr m)) = tree_pulls r h.2 m
