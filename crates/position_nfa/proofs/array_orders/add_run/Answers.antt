use Rattle.std.proofs.Common.{[], ◌∷◌, ◌+◌, ◌*◌}
use Rattle.position_nfa.proofs.Adding.{extends, one_more}
use Rattle.position_nfa.proofs.array_orders.add_run.Goals as goal

pub loop-i-preserved : goal.loop-i-preserved
loop-i-preserved c =
    extends c.args.order.now.items c.loop-i.order.items _ _ ((c.args.from + c.args.apart * c.loop-i.i) ∷ []) _ c.loop-i.invariant c.in_ok-push.ensures.items
    (one_more (λ i. c.args.from + c.args.apart * i) c.loop-i.i)
