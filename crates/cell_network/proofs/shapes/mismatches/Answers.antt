use Rattle.cell_network.proofs.Frames.{mismatch_more}
use Rattle.cell_network.proofs.shapes.mismatches.Goals as goal

pub loop-line-preserved : goal.loop-line-preserved
loop-line-preserved c =
    mismatch_more c.args.pattern.now c.loop-line.line _ c.loop-line.nets.items c.add_mismatch.new.nets.items c.loop-line-test.true c.loop-line.invariant
    c.in_ok-add_mismatch.ensures
