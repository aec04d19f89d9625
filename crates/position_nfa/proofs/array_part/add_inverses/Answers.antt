use Rattle.std.proofs.Common.{[], ◌∷◌, refl, ◌∙◌}
use Rattle.position_nfa.specs.Registers.{inverter, inverse_net, master_net}
use Rattle.position_nfa.proofs.Adding.{extends, one_more}
use Rattle.position_nfa.proofs.array_part.add_inverses.Goals as goal

pub loop-p-preserved : goal.loop-p-preserved
loop-p-preserved c =
    extends c.args.gates.now.items c.loop-p.gates.items _ _ (inverter (inverse_net c.args.counts c.loop-p.p) (master_net c.args.counts c.loop-p.p) ∷ []) _
    c.loop-p.invariant (c.in_ok-add_inverter.ensures ∙ rw (c.inverse_net.ensures, c.master_net.ensures) refl)
    (one_more (λ i. inverter (inverse_net c.args.counts i) (master_net c.args.counts i)) c.loop-p.p)
