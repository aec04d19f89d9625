use Rattle.std.proofs.Common.{[], ◌∷◌, ◌+◌}
use Rattle.cell_network.proofs.Adding.{extends, range_one}
use Rattle.cell_network.proofs.whole.add_range.Goals as goal

pub loop-i-preserved : goal.loop-i-preserved
loop-i-preserved c =
    extends c.args.order.now.items c.loop-i.order.items _ _ ((c.args.from + c.loop-i.i) ∷ []) _ c.loop-i.invariant c.in_ok-push.ensures.items
    (range_one c.args.from c.loop-i.i)
