-- Trees in Polish notation (after Łukasiewicz): each node stands before its left part, and that before its right part.
use Rattle.std.specs.Prelude.{ℕ, List, [], ◌∷◌, ◌++◌}
use Rattle.star_normal.specs.declared.node.Node.{Node}
use Rattle.star_normal.specs.declared.node.NodeKind.{NodeKind}
use Rattle.star_normal.specs.declared.node.NodeKind.TheVariants.{Leaf, Seq, Alt}
use Rattle.star_normal.specs.Trees.{Flags, FlaggedTree, leaf, seq, alt}
use Rattle.star_normal.specs.Tables.{flags_of}

-- a node without the numbers of its parts
pub data Label : Type 0 where
  leaf_label : Flags → ℕ → Label
  seq_label : Flags → Label
  alt_label : Flags → Label

abbrev pub tree_labels : FlaggedTree → List Label
tree_labels (leaf f s) = leaf_label f s ∷ []
tree_labels (seq f l r) = seq_label f ∷ (tree_labels l ++ tree_labels r)
tree_labels (alt f l r) = alt_label f ∷ (tree_labels l ++ tree_labels r)

abbrev pub kind_label : Flags → NodeKind → Label
kind_label f (Leaf s) = leaf_label f s
kind_label f (Seq l r) = seq_label f
kind_label f (Alt l r) = alt_label f

abbrev pub label_of : Node → Label
label_of node = kind_label (flags_of node) node.kind

-- the trees that are read from labels, from the last to the first

abbrev pub read_seq : Flags → List FlaggedTree → List FlaggedTree
read_seq f [] = []
read_seq f (l ∷ []) = []
read_seq f (l ∷ r ∷ ts) = seq f l r ∷ ts

abbrev pub read_alt : Flags → List FlaggedTree → List FlaggedTree
read_alt f [] = []
read_alt f (l ∷ []) = []
read_alt f (l ∷ r ∷ ts) = alt f l r ∷ ts

abbrev pub read_label : Label → List FlaggedTree → List FlaggedTree
read_label (leaf_label f s) ts = leaf f s ∷ ts
read_label (seq_label f) ts = read_seq f ts
read_label (alt_label f) ts = read_alt f ts

abbrev pub read_labels : List Label → List FlaggedTree
read_labels [] = []
read_labels (label ∷ rest) = read_label label (read_labels rest)
