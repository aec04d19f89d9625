-- The nodes of a specification beside its names.
use Rattle.std.specs.Prelude.{◌≡◌, ℕ, ◌+◌, ◌<◌, ◌≤◌, ◌^◌, ◌==◌, List, ◌++◌, Some, length, slice_get, All, count_by}
use Rattle.rx_lang.specs.declared.expr_node.ExprNode.{ExprNode}
use Rattle.rx_lang.specs.Tables.{Tables, HasBounds, children, NamesEntries, table_occurrences, uses}
use Rattle.rx_syntax.specs.NameTables.{NameTables}

-- the tables of a specification, with these nodes and the roots of its `expr` and `scan` statements
abbrev pub with_nodes : NameTables → List ExprNode → List ℕ → List ℕ → Tables
with_nodes names nodes exprs scans =
    record { lines = names.lines; symbols = names.symbols; outputs = names.outputs; nodes = nodes; exprs = exprs; scans = scans }

-- The nodes and roots are those of a specification with these names.
pub record AreNodes (names : NameTables) (nodes : List ExprNode) (exprs scans : List ℕ) : Type 0 where
  pub some_statements : 1 ≤ length exprs + length scans
  pub few_leaves : length (table_occurrences (with_nodes names nodes exprs scans)) ≤ 4096
  pub few_nodes : length nodes < 2 ^ 32
  pub named_entries : All (NamesEntries (with_nodes names nodes exprs scans)) nodes
  pub bounds : All HasBounds nodes
  pub children_before : (k : ℕ) (node : ExprNode) → slice_get nodes k ≡ Some node → All (λ child. child < k) (children node)
  pub roots_in_table : All (λ root. root < length nodes) (exprs ++ scans)
  pub used_once : (k : ℕ) → k < length nodes → count_by (λ x. x == k) (uses (with_nodes names nodes exprs scans)) ≡ 1
