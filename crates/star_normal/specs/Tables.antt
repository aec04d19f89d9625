-- Normal forms as tables: what the tables keep, and the trees that they stand for.
use Rattle.std.specs.Prelude.{◌≡◌, ℕ, ◌<◌, ◌≤◌, Bool, true, false, ◌==◌, List, [], ◌∷◌, ◌++◌, length, slice_get, slice_index_or, Some, All, count_by, flat_map, fold}
use Rattle.std.specs.Int.{bit_at}
use Rattle.star_normal.specs.declared.node.Node.{Node}
use Rattle.star_normal.specs.declared.node.NodeKind.{NodeKind}
use Rattle.star_normal.specs.declared.node.NodeKind.TheVariants.{Leaf, Seq, Alt}
use Rattle.star_normal.specs.Trees.{Flags, FlaggedTree, leaf, seq, alt}
use Rattle.star_normal.specs.Normal.{bare}
use Rattle.rx_lang.specs.Copies.{IsItself}
use Rattle.star_normal.specs.Shapes.{AreStripped, IsExact, HasOneScan}

-- the nodes, each behind its children, and the number of the root
pub record TreeTable : Type 0 where
  pub nodes : List Node
  pub root : ℕ

-- the numbers of the children
abbrev pub parts : NodeKind → List ℕ
parts (Leaf s) = []
parts (Seq left right) = left ∷ right ∷ []
parts (Alt left right) = left ∷ right ∷ []

-- the node is a leaf
abbrev pub is_leaf : NodeKind → Bool
is_leaf (Leaf s) = true
is_leaf (Seq left right) = false
is_leaf (Alt left right) = false

-- a node with no loop and no mark
abbrev pub plain_node : NodeKind → Bool → Node
plain_node kind e = record { kind = kind; loops = false; eps = e; scan = false; marks = 0; eps_marks = 0 }

abbrev pub flags_of : Node → Flags
flags_of node = record {
  loops = node.loops;
  eps = node.eps;
  scan = node.scan;
  marks = λ y. bit_at node.marks y == 1;
  eps_marks = λ y. bit_at node.eps_marks y == 1;
}

-- the tree with this number; a number out of range reads as symbol 0
abbrev pub form_at : List FlaggedTree → ℕ → FlaggedTree
form_at before k = slice_index_or before k (leaf bare 0)

-- the tree of a node from the trees of the nodes before it
abbrev pub form_by : List FlaggedTree → Flags → NodeKind → FlaggedTree
form_by before f (Leaf s) = leaf f s
form_by before f (Seq left right) = seq f (form_at before left) (form_at before right)
form_by before f (Alt left right) = alt f (form_at before left) (form_at before right)

abbrev pub form_of : List FlaggedTree → Node → FlaggedTree
form_of before node = form_by before (flags_of node) node.kind

-- the tree of every node
abbrev pub forms : List Node → List FlaggedTree
forms nodes = fold (λ before node. before ++ form_of before node ∷ []) [] nodes

-- the tree that the table stands for
abbrev pub whole : TreeTable → FlaggedTree
whole table = form_at (forms table.nodes) table.root

-- every use of a node, as a child or as the root
abbrev pub node_uses : TreeTable → List ℕ
node_uses table = flat_map (λ node. parts node.kind) table.nodes ++ table.root ∷ []

-- The table is one full binary tree: every node but the root is a child exactly once. The base of every loop is its own
-- strip, so no loop stands over the empty word, and eps is exact. One node at most scans.
pub record IsTree (table : TreeTable) : Type 0 where
  pub some_leaves : 1 ≤ count_by (λ node. is_leaf node.kind) table.nodes
  pub few_leaves : count_by (λ node. is_leaf node.kind) table.nodes ≤ 4096
  pub children_before : (k : ℕ) (node : Node) → slice_get table.nodes k ≡ Some node → All (λ child. child < k) (parts node.kind)
  pub root_in_table : table.root < length table.nodes
  pub used_once : (k : ℕ) → k < length table.nodes → count_by (λ x. x == k) (node_uses table) ≡ 1
  pub stripped : AreStripped (whole table)
  pub exact : IsExact IsItself (whole table)
  pub scan : HasOneScan (whole table)
