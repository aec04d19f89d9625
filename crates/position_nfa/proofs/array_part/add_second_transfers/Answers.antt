use Rattle.std.proofs.Common.{[], ◌∷◌, refl, ◌∙◌}
use Rattle.position_nfa.specs.Registers.{second_transfer}
use Rattle.position_nfa.proofs.Adding.{extends, one_more}
use Rattle.position_nfa.proofs.array_part.add_second_transfers.Goals as goal

pub loop-p-preserved : goal.loop-p-preserved
loop-p-preserved c =
    extends c.args.transfers.now.items c.loop-p.transfers.items _ _ (second_transfer c.args.counts c.loop-p.p ∷ []) _ c.loop-p.invariant
    (c.in_ok-push.ensures.items ∙ rw (c.inverse_net.ensures, c.stored_net.ensures) refl) (one_more (second_transfer c.args.counts) c.loop-p.p)
