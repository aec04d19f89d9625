-- The scan node of a tree and the rest of it, as subtrees.
use Rattle.std.specs.Prelude.{◌≡◌, ℕ, ◌<◌, Bool, if◌then◌else◌, List, [], Option, Some, None, length, ⊤}
use Rattle.star_normal.specs.declared.node.Node.{Node}
use Rattle.star_normal.specs.declared.node.NodeKind.{NodeKind}
use Rattle.star_normal.specs.declared.node.NodeKind.TheVariants.{Leaf, Seq, Alt}
use Rattle.star_normal.specs.Trees.{FlaggedTree}
use Rattle.position_nfa.specs.declared.summaries.Summary.{Summary}
use Rattle.position_nfa.specs.declared.firsts.Subtree.{Subtree}
use Rattle.position_nfa.specs.Automaton.{Automaton}
use Rattle.position_nfa.specs.LeafRows.{firsts}
use Rattle.position_nfa.specs.Summaries.{node_at, summary_at}
use Rattle.position_nfa.specs.Waiting.{LeafLists, IsSubtree, numbered_tree, left_subtree, right_subtree}

abbrev pub kind_rest : List Node → Subtree → NodeKind → Option Subtree
kind_rest nodes root (Leaf s) = Some root
kind_rest nodes root (Seq l r) = Some root
kind_rest nodes root (Alt l r) = Some (if (node_at nodes r).scan then left_subtree root l else root)

abbrev pub kind_scan : List Node → List Summary → Subtree → NodeKind → Option Subtree
kind_scan nodes summaries root (Leaf s) = None
kind_scan nodes summaries root (Seq l r) = None
kind_scan nodes summaries root (Alt l r) = if (node_at nodes r).scan then Some (right_subtree summaries root l r) else None

-- the rest of the tree beside its scan node, where there is one
abbrev pub rest_of : List Node → Subtree → Option Subtree
rest_of nodes root = if (node_at nodes root.node).scan then None else kind_rest nodes root (node_at nodes root.node).kind

-- the scan node, where there is one
abbrev pub scan_of : List Node → List Summary → Subtree → Option Subtree
scan_of nodes summaries root =
    if (node_at nodes root.node).scan then Some root else kind_scan nodes summaries root (node_at nodes root.node).kind

-- the part is a subtree, where it stands
abbrev pub IsPart : List Node → Option Subtree → Type 0
IsPart nodes None = ⊤
IsPart nodes (Some s) = IsSubtree nodes s

abbrev pub part_tree : List Node → Option Subtree → Option FlaggedTree
part_tree nodes None = None
part_tree nodes (Some s) = Some (numbered_tree nodes s)

-- the positions with which its words begin
abbrev pub part_firsts : Option FlaggedTree → List ℕ
part_firsts None = []
part_firsts (Some t) = firsts t

-- the mask of the outputs that it marks for the empty word
abbrev pub part_mask : List Summary → Option Subtree → ℕ
part_mask summaries None = 0
part_mask summaries (Some s) = (summary_at summaries s.node).empties

-- the tables of an automaton, from the rows of its leaves
abbrev pub automaton_with : LeafLists → List ℕ → List ℕ → ℕ → Automaton
automaton_with rows first scan_first scan_marked = record {
  symbols = rows.symbols;
  first = first;
  scan_first = scan_first;
  follow = rows.follow;
  marked = rows.marked;
  scan_marked = scan_marked;
}
