use Rattle.std.proofs.Common.{◌≡◌, ◌++◌, map}
use Rattle.star_normal.specs.Trees.{leaves}
use Rattle.star_normal.specs.Tables.{form_at, forms}
use Rattle.position_nfa.specs.Automaton.{has_output}
use Rattle.position_nfa.specs.LeafRows.{tree_rows}
use Rattle.position_nfa.specs.Waiting.{numbered_tree, waiting_rows, waiting_symbols}
use Rattle.position_nfa.proofs.RowSteps.{AreDuties, duties_weight, follow_sets, shown}
use Rattle.position_nfa.proofs.leaf_rows.add_rows.Given as goal

abbrev pub invariant-loop-task : goal.invariant-loop-task
invariant-loop-task l = record {
  duties : AreDuties l.nodes l.tasks.items;
  symbols : l.rows.symbols ++ waiting_symbols l.nodes l.tasks.items ≡ l.initial.rows.symbols ++ leaves (form_at (forms l.nodes) l.fn.root.node);
  follow : l.rows.follow ++ follow_sets (waiting_rows l.nodes l.tasks.items) ≡ l.initial.rows.follow ++ follow_sets (tree_rows (numbered_tree l.nodes l.fn.root));
  marked : map has_output l.rows.marked ++ shown (waiting_rows l.nodes l.tasks.items) ≡ map has_output l.initial.rows.marked ++ shown (tree_rows (numbered_tree l.nodes l.fn.root));
}

abbrev pub decreases-loop-task : goal.decreases-loop-task
decreases-loop-task l = duties_weight l.nodes l.tasks.items
