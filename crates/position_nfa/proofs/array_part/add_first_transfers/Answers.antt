use Rattle.std.proofs.Common.{[], ◌∷◌, refl, ◌∙◌}
use Rattle.position_nfa.specs.Registers.{first_transfer}
use Rattle.position_nfa.proofs.Adding.{extends, one_more}
use Rattle.position_nfa.proofs.array_part.add_first_transfers.Goals as goal

pub loop-p-preserved : goal.loop-p-preserved
loop-p-preserved c =
    extends c.args.transfers.now.items c.loop-p.transfers.items _ _ (first_transfer c.args.counts c.loop-p.p ∷ []) _ c.loop-p.invariant
    (c.in_ok-push.ensures.items ∙ rw (c.sum_net.ensures, c.master_net.ensures) refl) (one_more (first_transfer c.args.counts) c.loop-p.p)
