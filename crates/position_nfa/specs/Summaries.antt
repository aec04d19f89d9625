-- What is known of each node before its leaves become positions.
use Rattle.std.specs.Prelude.{◌≡◌, ℕ, ◌<◌, Bool, false, if◌then◌else◌, List, length, slice_index_or, bit_or, ⊤}
use Rattle.star_normal.specs.declared.node.Node.{Node}
use Rattle.star_normal.specs.declared.node.NodeKind.{NodeKind}
use Rattle.star_normal.specs.declared.node.NodeKind.TheVariants.{Leaf, Seq, Alt}
use Rattle.star_normal.specs.Tables.{form_at, forms, plain_node}
use Rattle.star_normal.specs.Sizes.{size_at}
use Rattle.position_nfa.specs.declared.summaries.Summary.{Summary}
use Rattle.position_nfa.specs.Automaton.{has_output}
use Rattle.position_nfa.specs.LeafRows.{empties}

-- the parts have numbers below this one
abbrev pub PartsAreBelow : ℕ → NodeKind → Type 0
PartsAreBelow n (Leaf s) = ⊤
PartsAreBelow n (Seq l r) = (l < n) × (r < n)
PartsAreBelow n (Alt l r) = (l < n) × (r < n)

abbrev pub node_at : List Node → ℕ → Node
node_at nodes k = slice_index_or nodes k (plain_node (Leaf 0) false)

abbrev pub summary_at : List Summary → ℕ → Summary
summary_at summaries k = slice_index_or summaries k (record { leaves = 0; empties = 0 })

-- the outputs that a base marks for the empty word at its beginning
abbrev pub mask_within : List Node → List Summary → NodeKind → ℕ
mask_within nodes before (Leaf s) = 0
mask_within nodes before (Seq l r) =
    bit_or (summary_at before l).empties (if (node_at nodes l).eps then (summary_at before r).empties else 0)
mask_within nodes before (Alt l r) = bit_or (summary_at before l).empties (summary_at before r).empties

abbrev pub empty_mask : List Node → List Summary → Node → ℕ
empty_mask nodes before node = bit_or (mask_within nodes before node.kind) node.eps_marks

-- an entry for each of the first n nodes
pub record AreFrontSummaries (nodes : List Node) (n : ℕ) (summaries : List Summary) : Type 0 where
  pub size : length summaries ≡ n
  pub leaves : (k : ℕ) → k < n → (summary_at summaries k).leaves ≡ size_at nodes k
  pub empties : (k y : ℕ) → k < n → has_output (summary_at summaries k).empties y ≡ empties (form_at (forms nodes) k) y

-- an entry for each node: how many leaves its tree has, and what it marks for the empty word at its beginning
abbrev pub AreSummaries : List Node → List Summary → Type 0
AreSummaries nodes summaries = AreFrontSummaries nodes (length nodes) summaries
