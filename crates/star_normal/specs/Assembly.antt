-- How a table is assembled from labels, which are read from the last to the first.
use Rattle.std.specs.Prelude.{◌≡◌, ℕ, ◌+◌, ◌<◌, ◌≤◌, ◌==◌, Bool, true, false, List, [], ◌∷◌, ◌++◌, length, slice_index_or, count_by, flat_map, ⊤}
use Rattle.rx_lang.specs.Copies.{IsItself}
use Rattle.star_normal.specs.declared.node.Node.{Node}
use Rattle.star_normal.specs.declared.node.NodeKind.{NodeKind}
use Rattle.star_normal.specs.declared.node.NodeKind.TheVariants.{Leaf, Seq, Alt}
use Rattle.star_normal.specs.Trees.{FlaggedTree, leaves}
use Rattle.star_normal.specs.Shapes.{AreStripped, IsExact, HasOneScan}
use Rattle.star_normal.specs.Tables.{parts, is_leaf, plain_node, form_at, forms}
use Rattle.star_normal.specs.Labels.{Label, leaf_label, seq_label, alt_label, read_labels}

-- The kind names the last two top nodes as its parts, the left one first; these are closed.
abbrev pub Closes : NodeKind → List ℕ → NodeKind → List ℕ → Type 0
Closes (Leaf s) tops made rest = (made ≡ Leaf s) × (tops ≡ rest)
Closes (Seq a b) tops made rest = (l : ℕ) × (r : ℕ) × (made ≡ Seq l r) × (tops ≡ (rest ++ r ∷ []) ++ l ∷ [])
Closes (Alt a b) tops made rest = (l : ℕ) × (r : ℕ) × (made ≡ Alt l r) × (tops ≡ (rest ++ r ∷ []) ++ l ∷ [])

-- the node with this kind
abbrev pub of_kind : Node → NodeKind → Node
of_kind node kind = record {
  kind = kind;
  loops = node.loops;
  eps = node.eps;
  scan = node.scan;
  marks = node.marks;
  eps_marks = node.eps_marks;
}

-- the trees of the top nodes, that of the last one first
abbrev pub top_trees : List Node → List ℕ → List FlaggedTree
top_trees nodes [] = []
top_trees nodes (k ∷ tops) = top_trees nodes tops ++ form_at (forms nodes) k ∷ []

-- the parts of a node have numbers below this one
abbrev pub PartsBelow : ℕ → NodeKind → Type 0
PartsBelow n (Leaf s) = ⊤
PartsBelow n (Seq l r) = (l < n) × (r < n)
PartsBelow n (Alt l r) = (l < n) × (r < n)

abbrev pub AllBelow : ℕ → List ℕ → Type 0
AllBelow n [] = ⊤
AllBelow n (k ∷ tops) = (k < n) × AllBelow n tops

-- each node stands behind its parts
abbrev pub AreOrdered : List Node → Type 0
AreOrdered nodes = (k : ℕ) → k < length nodes → PartsBelow k (slice_index_or nodes k (plain_node (Leaf 0) false)).kind

-- node m is used once if it stands in the table, and else never
pub record Uses (size uses m : ℕ) : Type 0 where
  pub once : m < size → uses ≡ 1
  pub never : size ≤ m → uses ≡ 0

abbrev pub is_leaf_label : Label → Bool
is_leaf_label (leaf_label f s) = true
is_leaf_label (seq_label f) = false
is_leaf_label (alt_label f) = false

-- what stands after these labels, the last ones of the tree
pub record Assembled (done : List Label) (nodes : List Node) (tops : List ℕ) : Type 0 where
  pub size : length nodes ≡ length done
  pub trees : top_trees nodes tops ≡ read_labels done
  pub order : AreOrdered nodes
  pub below : AllBelow (length nodes) tops
  pub uses : (m : ℕ) → Uses (length nodes) (count_by (λ x. x == m) (flat_map (λ node. parts node.kind) nodes) + count_by (λ x. x == m) tops) m
  pub leaves : count_by (λ node. is_leaf node.kind) nodes ≡ count_by is_leaf_label done

-- what the tree of a specification keeps
pub record IsNormal (t : FlaggedTree) : Type 0 where
  pub few : length (leaves t) ≤ 4096
  pub stripped : AreStripped t
  pub exact : IsExact IsItself t
  pub scan : HasOneScan t

-- the node of a label stands behind the others and is a top node, in place of its parts
pub record Joins (label : Node) (nodes : List Node) (tops : List ℕ) (joined : List Node) (tops_later : List ℕ) : Type 0 where
  pub made : NodeKind
  pub rest : List ℕ
  pub closes : Closes label.kind tops made rest
  pub joins : joined ≡ nodes ++ of_kind label made ∷ []
  pub opens : tops_later ≡ rest ++ length nodes ∷ []
