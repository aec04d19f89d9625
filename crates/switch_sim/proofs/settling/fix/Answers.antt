use Rattle.std.proofs.Common.{subst, sym, ◌<◌, length, arith}
use Rattle.switch_net.specs.declared.network.Pad.{Pad}
use Rattle.switch_sim.proofs.Fixed.{fixed_more}
use Rattle.switch_sim.proofs.settling.fix.Goals as goal

pub loop-at-preserved : goal.loop-at-preserved
loop-at-preserved c =
    let below : c.index-pads-at.result.net.0 < length c.args.fixed.now =
    subst (λ (q : Pad). q.net.0 < length c.args.fixed.now) (sym c.index-pads-at.is) (c.requires.within c.loop-at.at c.index-pads-at.result c.loop-at-test.true) in
    rw c.fix_net.ensures.fixed
    (fixed_more c.loop-at.fixed c.args.pads.now c.args.drive.now c.loop-at.at c.index-pads-at.result c.loop-at-test.true
    c.requires.driven c.requires.distinct c.index-pads-at.is (omega (arith, c.fill.ensures.len, c.loop-at.auto.fixed)) c.loop-at.invariant)
