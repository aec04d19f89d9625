use Rattle.star_normal.proofs.Stated.{fronts_step}
use Rattle.star_normal.proofs.statements.fronts_nullable.Goals as goal

pub loop-root-preserved : goal.loop-root-preserved
loop-root-preserved c = rw c.in_ok-push.ensures.items
    (fronts_step c.args.outlines.now c.args.roots.now c.loop-root.root-index _ c.loop-root.fronts.items c.loop-root.nullable _ c.adds-nullable.ensures c.loop-root-test.true
    c.loop-root.invariant.0 c.loop-root.invariant.1)
