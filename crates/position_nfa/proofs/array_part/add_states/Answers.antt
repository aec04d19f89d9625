use Rattle.std.proofs.Common.{[], ◌∷◌, refl, ◌∙◌}
use Rattle.position_nfa.specs.Registers.{inverter, state_net, stored_net}
use Rattle.position_nfa.proofs.Adding.{extends, one_more}
use Rattle.position_nfa.proofs.array_part.add_states.Goals as goal

pub loop-p-preserved : goal.loop-p-preserved
loop-p-preserved c =
    extends c.args.gates.now.items c.loop-p.gates.items _ _ (inverter (state_net c.args.counts c.loop-p.p) (stored_net c.args.counts c.loop-p.p) ∷ []) _
    c.loop-p.invariant (c.in_ok-add_inverter.ensures ∙ rw (c.state_net.ensures, c.stored_net.ensures) refl)
    (one_more (λ i. inverter (state_net c.args.counts i) (stored_net c.args.counts i)) c.loop-p.p)
