-- Specifications as tables: what the tables keep, and the specification that they stand for.
use Rattle.std.specs.Prelude.{◌≡◌, ◌≢◌, ℕ, ◌+◌, ◌<◌, ◌≤◌, ◌^◌, Bool, true, false, ◌==◌, List, [], ◌∷◌, ◌++◌, length, map, slice_get, slice_index_or, Some, All, AllPairs, count_by, flat_map, fold, ⊤}
use Rattle.rx_lang.specs.declared.expr_node.ExprNode.{ExprNode}
use Rattle.rx_lang.specs.declared.expr_node.ExprNode.TheVariants.{Leaf, Seq, Alt, Star, Plus, Opt, Mark, Repeat}
use Rattle.rx_lang.specs.Expression.{Expr, symbol, sequence, union, star, plus, optional, marked, repeated}
use Rattle.rx_lang.specs.Copies.{occurrences}
use Rattle.rx_lang.specs.Specification.{NamedPattern, Specification}

-- Names and patterns in order of declaration, the nodes of all expressions, and the root of each `expr` and `scan` statement.
pub record Tables : Type 0 where
  pub lines : List (List ℕ)
  pub symbols : List NamedPattern
  pub outputs : List (List ℕ)
  pub nodes : List ExprNode
  pub exprs : List ℕ
  pub scans : List ℕ

-- the numbers of the children
abbrev pub children : ExprNode → List ℕ
children (Leaf s) = []
children (Seq f g) = f ∷ g ∷ []
children (Alt f g) = f ∷ g ∷ []
children (Star f) = f ∷ []
children (Plus f) = f ∷ []
children (Opt f) = f ∷ []
children (Mark f y) = f ∷ []
children (Repeat f m n) = f ∷ []

-- the node is an occurrence of a symbol
abbrev pub is_leaf : ExprNode → Bool
is_leaf (Leaf s) = true
is_leaf (Seq f g) = false
is_leaf (Alt f g) = false
is_leaf (Star f) = false
is_leaf (Plus f) = false
is_leaf (Opt f) = false
is_leaf (Mark f y) = false
is_leaf (Repeat f m n) = false

-- A symbol or output that the node names is in its table.
abbrev pub NamesEntries : Tables → ExprNode → Type 0
NamesEntries tables (Leaf s) = s < length tables.symbols
NamesEntries tables (Seq f g) = ⊤
NamesEntries tables (Alt f g) = ⊤
NamesEntries tables (Star f) = ⊤
NamesEntries tables (Plus f) = ⊤
NamesEntries tables (Opt f) = ⊤
NamesEntries tables (Mark f y) = y < length tables.outputs
NamesEntries tables (Repeat f m n) = ⊤

-- A counted repeat is of at least m and at most n times, where m is at most n and n from 1 to 255.
abbrev pub HasBounds : ExprNode → Type 0
HasBounds (Leaf s) = ⊤
HasBounds (Seq f g) = ⊤
HasBounds (Alt f g) = ⊤
HasBounds (Star f) = ⊤
HasBounds (Plus f) = ⊤
HasBounds (Opt f) = ⊤
HasBounds (Mark f y) = ⊤
HasBounds (Repeat f m n) = (m ≤ n) × (1 ≤ n) × (n ≤ 255)

-- all declared names
abbrev pub names : Tables → List (List ℕ)
names tables = tables.lines ++ map (λ s. s.name) tables.symbols ++ tables.outputs

-- every use of a node, as a child or as the root of a statement
abbrev pub uses : Tables → List ℕ
uses tables = flat_map children tables.nodes ++ (tables.exprs ++ tables.scans)

-- the tree with this number; a number out of range reads as symbol 0
abbrev pub tree_at : List Expr → ℕ → Expr
tree_at before k = slice_index_or before k (symbol 0)

-- the tree of a node from the trees of the nodes before it
abbrev pub tree_of : List Expr → ExprNode → Expr
tree_of before (Leaf s) = symbol s
tree_of before (Seq f g) = sequence (tree_at before f) (tree_at before g)
tree_of before (Alt f g) = union (tree_at before f) (tree_at before g)
tree_of before (Star f) = star (tree_at before f)
tree_of before (Plus f) = plus (tree_at before f)
tree_of before (Opt f) = optional (tree_at before f)
tree_of before (Mark f y) = marked (tree_at before f) y
tree_of before (Repeat f m n) = repeated (tree_at before f) m n

-- the tree of every node
abbrev pub trees : List ExprNode → List Expr
trees nodes = fold (λ before node. before ++ tree_of before node ∷ []) [] nodes

-- the symbols of the occurrences in all statements, first in the `expr` statements, copies under counted repeats counted
abbrev pub table_occurrences : Tables → List ℕ
table_occurrences tables = flat_map (λ root. occurrences (tree_at (trees tables.nodes) root)) (tables.exprs ++ tables.scans)

-- The tables are those of a specification.
pub record IsSpecification (tables : Tables) : Type 0 where
  pub some_lines : 1 ≤ length tables.lines
  pub few_lines : length tables.lines ≤ 16
  pub some_symbols : 1 ≤ length tables.symbols
  pub few_symbols : length tables.symbols ≤ 32
  pub some_outputs : 1 ≤ length tables.outputs
  pub few_outputs : length tables.outputs ≤ 16
  pub some_statements : 1 ≤ length tables.exprs + length tables.scans
  pub few_leaves : length (table_occurrences tables) ≤ 4096
  pub few_nodes : length tables.nodes < 2 ^ 32
  pub names_differ : AllPairs (λ a b. a ≢ b) (names tables)
  pub place_per_line : All (λ s. length s.pattern ≡ length tables.lines) tables.symbols
  pub named_entries : All (NamesEntries tables) tables.nodes
  pub bounds : All HasBounds tables.nodes
  pub children_before : (k : ℕ) (node : ExprNode) → slice_get tables.nodes k ≡ Some node → All (λ child. child < k) (children node)
  pub roots_in_table : All (λ root. root < length tables.nodes) (tables.exprs ++ tables.scans)
  pub used_once : (k : ℕ) → k < length tables.nodes → count_by (λ x. x == k) (uses tables) ≡ 1

-- the specification that the tables stand for
abbrev pub specification : Tables → Specification
specification tables = record {
  lines = tables.lines;
  symbols = tables.symbols;
  outputs = tables.outputs;
  statements = map (tree_at (trees tables.nodes)) tables.exprs;
  scans = map (tree_at (trees tables.nodes)) tables.scans;
}
