use Rattle.std.proofs.Common.{arith}
use Rattle.star_normal.proofs.Assembled.{step_few, step_parts, step_next, at_end, one_top, is_whole, is_tree}
use Rattle.star_normal.proofs.LeafTotals.{table_nodes}
use Rattle.star_normal.proofs.assembly.assemble.Goals as goal

pub join-requires-clause-few : goal.join-requires-clause-few
join-requires-clause-few c = omega (arith, step_few c.requires.0 c.args.labels.now c.requires.1 c.loop-i.i c.loop-i.nodes.items c.loop-i.tops.items c.requires.2.few c.loop-i.invariant)

pub join-requires-clause-parts : goal.join-requires-clause-parts
join-requires-clause-parts c = step_parts c.requires.0 c.args.labels.now c.requires.1 c.loop-i.i _ c.loop-i.nodes.items c.loop-i.tops.items c.loop-i-test.true c.loop-i.auto.i c.loop-i.invariant

pub loop-i-preserved : goal.loop-i-preserved
loop-i-preserved c =
    step_next c.requires.0 c.args.labels.now c.requires.1 c.loop-i.i _ c.loop-i.nodes.items c.loop-i.tops.items c.join.new.nodes.items c.join.new.tops.items
    c.loop-i-test.true c.loop-i.auto.i c.loop-i.invariant c.in_ok-join.ensures

pub take-root-requires : goal.take-root-requires
take-root-requires c =
    one_top c.requires.0 c.loop-i.nodes.items c.loop-i.tops.items (at_end c.requires.0 c.args.labels.now c.requires.1 c.loop-i.i c.loop-i.nodes.items c.loop-i.tops.items (omega (arith, c.loop-i-test.false)) c.loop-i.invariant)

pub new-requires : goal.new-requires
new-requires c =
    is_tree c.requires.0 c.loop-i.nodes.items c.loop-i.tops.items (at_end c.requires.0 c.args.labels.now c.requires.1 c.loop-i.i c.loop-i.nodes.items c.loop-i.tops.items (omega (arith, c.loop-i-test.false)) c.loop-i.invariant)
    c.take-root.new.tops.items c.take-root.result c.take-root.ensures c.requires.2

pub returns-clause-tree : goal.returns-clause-tree
returns-clause-tree c = λ t e. rw c.new.ensures
    (is_whole t c.loop-i.nodes.items c.loop-i.tops.items (at_end t c.args.labels.now e c.loop-i.i c.loop-i.nodes.items c.loop-i.tops.items (omega (arith, c.loop-i-test.false)) c.loop-i.invariant)
    c.take-root.new.tops.items c.take-root.result c.take-root.ensures)

pub returns-clause-nodes : goal.returns-clause-nodes
returns-clause-nodes c = rw c.new.ensures (table_nodes (record { nodes = c.loop-i.nodes.items; root = c.take-root.result })
    (is_tree c.requires.0 c.loop-i.nodes.items c.loop-i.tops.items (at_end c.requires.0 c.args.labels.now c.requires.1 c.loop-i.i c.loop-i.nodes.items c.loop-i.tops.items (omega (arith, c.loop-i-test.false)) c.loop-i.invariant)
    c.take-root.new.tops.items c.take-root.result c.take-root.ensures c.requires.2))
