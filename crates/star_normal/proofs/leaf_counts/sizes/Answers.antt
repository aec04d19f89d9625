use Rattle.star_normal.proofs.Sized.{turn_parts, turn_fits, turn_next}
use Rattle.star_normal.proofs.leaf_counts.sizes.Goals as goal

pub size_of-size-requires-clause-parts : goal.size_of-size-requires-clause-parts
size_of-size-requires-clause-parts c = rw c.deref.ensures.value
    (turn_parts c.args.tree.now c.nodes-nodes.ensures.tree c.nodes-nodes.result.now c.nodes-nodes.ensures.nodes c.loop-node.node-index _ c.loop-node.sizes.items
    c.loop-node-test.true c.loop-node.invariant)

pub size_of-size-requires-clause-fits : goal.size_of-size-requires-clause-fits
size_of-size-requires-clause-fits c = rw c.deref.ensures.value
    (turn_fits c.args.tree.now c.nodes-nodes.ensures.tree c.nodes-nodes.result.now c.nodes-nodes.ensures.nodes c.loop-node.node-index _ c.loop-node.sizes.items
    c.loop-node-test.true c.loop-node.invariant)

pub loop-node-preserved : goal.loop-node-preserved
loop-node-preserved c = rw (c.in_ok-push.ensures.items, c.size_of-size.ensures, c.deref.ensures.value)
    (turn_next c.args.tree.now c.nodes-nodes.ensures.tree c.nodes-nodes.result.now c.nodes-nodes.ensures.nodes c.loop-node.node-index _ c.loop-node.sizes.items
    c.loop-node-test.true c.loop-node.invariant)
