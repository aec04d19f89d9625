-- Nodes that wait until their leaves become positions.
use Rattle.std.specs.Prelude.{◌≡◌, ℕ, ◌+◌, ◌<◌, ◌≤◌, Bool, if◌then◌else◌, List, [], ◌∷◌, ◌++◌, length, map, bit_or}
use Rattle.star_normal.specs.declared.node.Node.{Node}
use Rattle.star_normal.specs.declared.node.NodeKind.{NodeKind}
use Rattle.star_normal.specs.declared.node.NodeKind.TheVariants.{Leaf, Seq, Alt}
use Rattle.star_normal.specs.Trees.{FlaggedTree, leaves}
use Rattle.star_normal.specs.Tables.{flags_of, form_at, forms}
use Rattle.star_normal.specs.Shapes.{tree_numbered}
use Rattle.star_normal.specs.Sizes.{size_at}
use Rattle.position_nfa.specs.declared.summaries.Summary.{Summary}
use Rattle.position_nfa.specs.declared.firsts.Subtree.{Subtree}
use Rattle.position_nfa.specs.Automaton.{has_output}
use Rattle.position_nfa.specs.LeafRows.{LeafRow, firsts, leaf_rows, behind_turn}
use Rattle.position_nfa.specs.Summaries.{PartsAreBelow, node_at, summary_at}

-- each node stands behind its parts
abbrev pub AreOrdered : List Node → Type 0
AreOrdered nodes = (k : ℕ) → k < length nodes → PartsAreBelow k (node_at nodes k).kind

-- the node is in the table, and its leaves have positions below 4096
pub record IsSubtree (nodes : List Node) (subtree : Subtree) : Type 0 where
  pub node : subtree.node < length nodes
  pub few : subtree.base + size_at nodes subtree.node ≤ 4096

-- the tree of the node, its leaves numbered from its first position on
abbrev pub numbered_tree : List Node → Subtree → FlaggedTree
numbered_tree nodes subtree = tree_numbered subtree.base (form_at (forms nodes) subtree.node)

abbrev pub left_subtree : Subtree → ℕ → Subtree
left_subtree subtree left = record { node = left; base = subtree.base }

abbrev pub right_subtree : List Summary → Subtree → ℕ → ℕ → Subtree
right_subtree summaries subtree left right = record { node = right; base = subtree.base + (summary_at summaries left).leaves }

-- ---- first positions

abbrev pub kind_positions : NodeKind → ℕ → List ℕ
kind_positions (Leaf s) base = base ∷ []
kind_positions (Seq l r) base = []
kind_positions (Alt l r) base = []

-- the position of a leaf
abbrev pub first_positions : List Node → Subtree → List ℕ
first_positions nodes subtree = kind_positions (node_at nodes subtree.node).kind subtree.base

abbrev pub kind_subtrees : List Node → List Summary → Subtree → NodeKind → List Subtree
kind_subtrees nodes summaries subtree (Leaf s) = []
kind_subtrees nodes summaries subtree (Seq l r) =
    (if (node_at nodes l).eps then right_subtree summaries subtree l r ∷ [] else []) ++ left_subtree subtree l ∷ []
kind_subtrees nodes summaries subtree (Alt l r) = right_subtree summaries subtree l r ∷ left_subtree subtree l ∷ []

-- the parts with which a word may begin, the left one last
abbrev pub first_subtrees : List Node → List Summary → Subtree → List Subtree
first_subtrees nodes summaries subtree = kind_subtrees nodes summaries subtree (node_at nodes subtree.node).kind

-- the first positions of all subtrees, those of the last one first
abbrev pub waiting_firsts : List Node → List Subtree → List ℕ
waiting_firsts nodes [] = []
waiting_firsts nodes (subtree ∷ subtrees) = waiting_firsts nodes subtrees ++ firsts (numbered_tree nodes subtree)

-- ---- rows

-- a node with what may come behind it, and with the mask of the outputs that are marked where it ends
pub record Duty : Type 0 where
  pub subtree : Subtree
  pub next : List ℕ
  pub ends : ℕ

-- symbols, follow sets and masks of positions
pub record LeafLists : Type 0 where
  pub symbols : List ℕ
  pub follow : List (List ℕ)
  pub marked : List ℕ

abbrev pub end_mask : Node → Summary → ℕ → ℕ
end_mask node summary ends = bit_or (bit_or ends node.marks) (if node.loops then summary.empties else 0)

abbrev pub left_mask : Node → Summary → ℕ → ℕ
left_mask right summary ends = bit_or summary.empties (if right.eps then ends else 0)

abbrev pub left_next : Node → List ℕ → List ℕ → List ℕ
left_next right own behind = own ++ (if right.eps then behind else [])

-- what a duty adds, by the kind of its node, from what comes behind a turn
abbrev pub kind_rows : NodeKind → List ℕ → ℕ → LeafLists
kind_rows (Leaf s) behind ends = record { symbols = s ∷ []; follow = behind ∷ []; marked = ends ∷ [] }
kind_rows (Seq l r) behind ends = record { symbols = []; follow = []; marked = [] }
kind_rows (Alt l r) behind ends = record { symbols = []; follow = []; marked = [] }

-- what comes behind a turn of the node
abbrev pub duty_behind : List Node → Duty → List ℕ
duty_behind nodes d = behind_turn (flags_of (node_at nodes d.subtree.node)) (firsts (numbered_tree nodes d.subtree)) d.next

-- the rows of all duties, those of the last duty first
abbrev pub waiting_rows : List Node → List Duty → List LeafRow
waiting_rows nodes [] = []
waiting_rows nodes (d ∷ ds) = waiting_rows nodes ds ++ leaf_rows (numbered_tree nodes d.subtree) d.next (has_output d.ends)

abbrev pub waiting_symbols : List Node → List Duty → List ℕ
waiting_symbols nodes [] = []
waiting_symbols nodes (d ∷ ds) = waiting_symbols nodes ds ++ leaves (form_at (forms nodes) d.subtree.node)

module _ (nodes : List Node) (summaries : List Summary) where
  abbrev pub right_firsts : Subtree → ℕ → ℕ → List ℕ
  right_firsts subtree l r = firsts (numbered_tree nodes (right_subtree summaries subtree l r))

  -- the duties that are left, the left part last
  abbrev pub kind_duties : Subtree → NodeKind → List ℕ → ℕ → List Duty
  kind_duties subtree (Leaf s) behind ends = []
  kind_duties subtree (Seq l r) behind ends =
      record { subtree = right_subtree summaries subtree l r; next = behind; ends = ends }
      ∷ record {
        subtree = left_subtree subtree l;
        next = left_next (node_at nodes r) (right_firsts subtree l r) behind;
        ends = left_mask (node_at nodes r) (summary_at summaries r) ends;
      } ∷ []
  kind_duties subtree (Alt l r) behind ends =
      record { subtree = right_subtree summaries subtree l r; next = behind; ends = ends }
      ∷ record { subtree = left_subtree subtree l; next = behind; ends = ends } ∷ []

  abbrev pub duty_ends : Duty → ℕ
  duty_ends d = end_mask (node_at nodes d.subtree.node) (summary_at summaries d.subtree.node) d.ends

  abbrev pub duty_rows : Duty → LeafLists
  duty_rows d = kind_rows (node_at nodes d.subtree.node).kind (duty_behind nodes d) (duty_ends d)

  abbrev pub duty_duties : Duty → List Duty
  duty_duties d = kind_duties d.subtree (node_at nodes d.subtree.node).kind (duty_behind nodes d) (duty_ends d)

-- the lists gain these
abbrev pub with_rows : LeafLists → LeafLists → LeafLists
with_rows a b = record { symbols = a.symbols ++ b.symbols; follow = a.follow ++ b.follow; marked = a.marked ++ b.marked }

-- the lists gain a row for each leaf of the tree, and its symbols
pub record GainRows (letters : List ℕ) (added : List LeafRow) (old new : LeafLists) : Type 0 where
  pub symbols : new.symbols ≡ old.symbols ++ letters
  pub follow : new.follow ≡ old.follow ++ map (λ row. row.follow) added
  pub marked : map has_output new.marked ≡ map has_output old.marked ++ map (λ row. row.marks) added
