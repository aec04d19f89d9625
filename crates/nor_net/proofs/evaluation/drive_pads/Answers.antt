use Rattle.std.proofs.Common.{◌∙◌, sym}
use Rattle.nor_net.proofs.Steps.{driven_more, lines_more}
use Rattle.nor_net.proofs.evaluation.drive_pads.Goals as goal

pub loop-pad-preserved : goal.loop-pad-preserved
loop-pad-preserved c =
    rw (c.next_line-line.ensures, c.drive_pad.ensures.values) (
      sym (driven_more c.args.drive.now c.args.pads.now c.loop-pad.values c.loop-pad.pad-index c.loop-pad.line c.pad-item.result c.loop-pad-test.true (sym c.pad-item.is))
          ∙ c.loop-pad.invariant.0,
      lines_more c.args.pads.now c.loop-pad.pad-index c.loop-pad.line c.pad-item.result c.loop-pad-test.true (sym c.pad-item.is) c.loop-pad.invariant.1,
    )
