use Rattle.std.proofs.Common.{arith}
use Rattle.std.proofs.lemmas.Option.{slice_get-get_or}
use Rattle.star_normal.proofs.Outlined.{outlines_next}
use Rattle.star_normal.proofs.outlines.outlines.Goals as goal

pub loop-node-preserved : goal.loop-node-preserved
loop-node-preserved c =
    rw (c.in_ok-push.ensures.items, c.outline_of-outline.ensures, c.deref.ensures.value)
    (outlines_next c.args.nodes.now c.loop-node.node-index c.loop-node.outlines.items _ c.requires
    (slice_get-get_or c.args.nodes.now c.loop-node.node-index _ (omega arith)) c.loop-node.invariant)
