-- The parts of a specification that was read are those that its text says.
use Rattle.std.proofs.Common.{◌≡◌, ℕ, List, map, ap, ◌∙◌}
use Rattle.rx_lang.specs.declared.expr_node.ExprNode.{ExprNode}
use Rattle.rx_lang.specs.Expression.{Expr}
use Rattle.rx_lang.specs.Specification.{NamedPattern, Specification}
use Rattle.rx_lang.specs.Tables.{IsSpecification, tree_at, trees, specification}
use Rattle.rx_syntax.specs.Grammar.{Syntax}
use Rattle.rx_syntax.specs.Accepted.{Says, said, Accepted}
use Rattle.rx_syntax.specs.NameTables.{AreNameTables, NameTables}
use Rattle.rx_syntax.specs.NodeTables.{AreNodes}
use Rattle.rx_syntax.specs.NameReading.{Declares}

abbrev pub of : List (List ℕ) → List NamedPattern → List (List ℕ) → List Expr → List Expr → Specification
of lines symbols outputs es ss = record { lines = lines; symbols = symbols; outputs = outputs; statements = es; scans = ss }

pub accepted_parts : (text : List ℕ) (limit : ℕ) (names : NameTables) → (h : Declares text limit names)
    → (lines : List (List ℕ)) (symbols : List NamedPattern) (outputs : List (List ℕ)) (nodes : List ExprNode) (exprs scans : List ℕ)
    → lines ≡ names.lines → symbols ≡ names.symbols → outputs ≡ names.outputs
    → ((syntax : Syntax) → Says text syntax → map (tree_at (trees nodes)) exprs ≡ (said text syntax).statements)
    → ((syntax : Syntax) → Says text syntax → map (tree_at (trees nodes)) scans ≡ (said text syntax).scans)
    → Accepted text limit (specification (record { lines = lines; symbols = symbols; outputs = outputs; nodes = nodes; exprs = exprs; scans = scans }))
accepted_parts text limit names h lines symbols outputs nodes exprs scans e f g statements scanned =
    let s = said text h.syntax in
    let ls : lines ≡ s.lines = e ∙ ap (λ (t : NameTables). t.lines) h.is in
    let ss : symbols ≡ s.symbols = f ∙ ap (λ (t : NameTables). t.symbols) h.is in
    let os : outputs ≡ s.outputs = g ∙ ap (λ (t : NameTables). t.outputs) h.is in
    let es = statements h.syntax h.says in
    let ns = scanned h.syntax h.says in
    let statements_of : List Expr = map (tree_at (trees nodes)) exprs in
    let scans_of : List Expr = map (tree_at (trees nodes)) scans in
    record {
      syntax = h.syntax;
      says = h.says;
      no_fault = h.no_fault;
      is = ap (λ x. of x symbols outputs statements_of scans_of) ls
          ∙ ap (λ x. of s.lines x outputs statements_of scans_of) ss
          ∙ ap (λ x. of s.lines s.symbols x statements_of scans_of) os
          ∙ ap (λ x. of s.lines s.symbols s.outputs x scans_of) es
          ∙ ap (λ x. of s.lines s.symbols s.outputs s.statements x) ns;
    }

-- what the declarations and the nodes keep is what a specification keeps
pub whole_kept : (names : NameTables) → AreNameTables names → (nodes : List ExprNode) (exprs scans : List ℕ) → AreNodes names nodes exprs scans
    → (lines : List (List ℕ)) (symbols : List NamedPattern) (outputs : List (List ℕ))
    → lines ≡ names.lines → symbols ≡ names.symbols → outputs ≡ names.outputs
    → IsSpecification (record { lines = lines; symbols = symbols; outputs = outputs; nodes = nodes; exprs = exprs; scans = scans })
whole_kept names n nodes exprs scans h lines symbols outputs e f g = rw (e, f, g) (record {
  some_lines = n.some_lines;
  few_lines = n.few_lines;
  some_symbols = n.some_symbols;
  few_symbols = n.few_symbols;
  some_outputs = n.some_outputs;
  few_outputs = n.few_outputs;
  some_statements = h.some_statements;
  few_leaves = h.few_leaves;
  few_nodes = h.few_nodes;
  names_differ = n.names_differ;
  place_per_line = n.place_per_line;
  named_entries = h.named_entries;
  bounds = h.bounds;
  children_before = h.children_before;
  roots_in_table = h.roots_in_table;
  used_once = h.used_once;
})
