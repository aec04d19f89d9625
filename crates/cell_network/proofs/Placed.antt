-- A tree whose nodes bear their numbers in a table, and the cells that belong to it.
use Rattle.std.proofs.Common.{◌≡◌, ◌⊎◌, ℕ, List, Some, slice_get, refl, sym, ap}
use Rattle.star_normal.specs.declared.node.Node.{Node}
use Rattle.star_normal.specs.declared.node.NodeKind.{NodeKind}
use Rattle.star_normal.specs.declared.node.NodeKind.TheVariants.{Leaf, Seq, Alt}
use Rattle.star_normal.specs.Trees.{FlaggedTree, leaf, seq, alt, flags}
use Rattle.star_normal.specs.Tables.{flags_of}
use Rattle.cell_network.specs.Cells.{eps_at}

-- Each node with its number, a leaf with its symbol.
pub data Placed : Type 0 where
  leaf_at : ℕ → Node → ℕ → Placed
  seq_at : ℕ → Node → Placed → Placed → Placed
  alt_at : ℕ → Node → Placed → Placed → Placed

abbrev pub number : Placed → ℕ
number (leaf_at k n s) = k
number (seq_at k n l r) = k
number (alt_at k n l r) = k

abbrev pub node_of : Placed → Node
node_of (leaf_at k n s) = n
node_of (seq_at k n l r) = n
node_of (alt_at k n l r) = n

-- the tree without the numbers
abbrev pub form : Placed → FlaggedTree
form (leaf_at k n s) = leaf (flags_of n) s
form (seq_at k n l r) = seq (flags_of n) (form l) (form r)
form (alt_at k n l r) = alt (flags_of n) (form l) (form r)

-- the node stands in the table and is of this kind
pub record Stands (nodes : List Node) (k : ℕ) (n : Node) (kind : NodeKind) : Type 0 where
  pub here : slice_get nodes k ≡ Some n
  pub is : n.kind ≡ kind

-- the tree stands in the table
abbrev pub IsPlaced : List Node → Placed → Type 0
IsPlaced nodes (leaf_at k n s) = Stands nodes k n (Leaf s)
IsPlaced nodes (seq_at k n l r) = Stands nodes k n (Seq (number l) (number r)) × IsPlaced nodes l × IsPlaced nodes r
IsPlaced nodes (alt_at k n l r) = Stands nodes k n (Alt (number l) (number r)) × IsPlaced nodes l × IsPlaced nodes r

-- the number belongs to a node of the tree
abbrev pub Has : Placed → ℕ → Type 0
Has (leaf_at k n s) m = k ≡ m
Has (seq_at k n l r) m = (k ≡ m) ⊎ (Has l m ⊎ Has r m)
Has (alt_at k n l r) m = (k ≡ m) ⊎ (Has l m ⊎ Has r m)

pub top_here : (nodes : List Node) (p : Placed) → IsPlaced nodes p → slice_get nodes (number p) ≡ Some (node_of p)
top_here nodes (leaf_at k n s) h = h.here
top_here nodes (seq_at k n l r) h = h.0.here
top_here nodes (alt_at k n l r) h = h.0.here

flags_top : (p : Placed) → flags (form p) ≡ flags_of (node_of p)
flags_top (leaf_at k n s) = refl
flags_top (seq_at k n l r) = refl
flags_top (alt_at k n l r) = refl

pub eps_top : (nodes : List Node) (p : Placed) → IsPlaced nodes p → eps_at nodes (number p) ≡ (flags (form p)).eps
eps_top nodes p h = rw (top_here nodes p h) (ap (λ f. f.eps) (sym (flags_top p)))
