use Rattle.cell_network.proofs.Feeding.{fed_more}
use Rattle.cell_network.proofs.home.in_nets.Goals as goal

pub loop-k-preserved : goal.loop-k-preserved
loop-k-preserved c =
    rw c.feed_parts.ensures
    (fed_more c.args.counts c.args.nodes.now c.loop-k.k _ c.loop-k.nets.items c.loop-k-test.true (c.requires.parts c.loop-k.k _ c.loop-k-test.true) c.loop-k.invariant)
