use Rattle.std.proofs.Common.{◌∙◌}
use Rattle.tree_layout.proofs.Numbering.{node_inside, node_number}
use Rattle.tree_layout.proofs.numbered.entries.Goals as goal

pub entry_at-entry-requires-clause-node : goal.entry_at-entry-requires-clause-node
entry_at-entry-requires-clause-node c = node_inside c.args.tree.now (c.each_node_stands_once.ensures.number c.args.tree.now c.nodes-frame.ensures.tree) (c.each_node_stands_once.ensures.inside c.args.tree.now c.nodes-frame.ensures.tree)
    (c.each_node_stands_once.ensures.numbers c.args.tree.now c.nodes-frame.ensures.tree) _ (c.deref-node-items.ensures.value ∙ c.in_ok-order.ensures) c.loop-number.number c.loop-number-test.true

pub entry_at-entry-requires-clause-number : goal.entry_at-entry-requires-clause-number
entry_at-entry-requires-clause-number c = node_number c.args.tree.now (c.each_node_stands_once.ensures.number c.args.tree.now c.nodes-frame.ensures.tree) (c.each_node_stands_once.ensures.inside c.args.tree.now c.nodes-frame.ensures.tree)
    (c.each_node_stands_once.ensures.numbers c.args.tree.now c.nodes-frame.ensures.tree) _ (c.deref-node-items.ensures.value ∙ c.in_ok-order.ensures) c.loop-number.number c.loop-number-test.true
