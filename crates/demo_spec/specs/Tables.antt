-- The tables of a specification that is made.
use Rattle.std.specs.Prelude.{ℕ, List, []}
use Rattle.rx_lang.specs.declared.expr_node.ExprNode.{ExprNode}
use Rattle.rx_lang.specs.Tables.{Tables}
use Rattle.demo_spec.specs.Generator.{demo_lines, demo_outputs, demo_symbols}

-- the tables with these nodes, and these numbers of statements
abbrev pub demo_tables : List ExprNode → List ℕ → Tables
demo_tables nodes exprs = record {
  lines = demo_lines;
  symbols = demo_symbols;
  outputs = demo_outputs;
  nodes = nodes;
  exprs = exprs;
  scans = [];
}
