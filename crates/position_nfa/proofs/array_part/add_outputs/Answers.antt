use Rattle.std.proofs.Common.{[], ◌∷◌, refl, ◌∙◌}
use Rattle.position_nfa.specs.Registers.{inverter, output_net, shared_net}
use Rattle.position_nfa.proofs.Adding.{extends, one_more}
use Rattle.position_nfa.proofs.array_part.add_outputs.Goals as goal

pub loop-y-preserved : goal.loop-y-preserved
loop-y-preserved c =
    extends c.args.gates.now.items c.loop-y.gates.items _ _ (inverter (output_net c.args.counts c.loop-y.y) (shared_net c.args.counts c.loop-y.y) ∷ []) _
    c.loop-y.invariant (c.in_ok-add_inverter.ensures ∙ rw (c.output_net.ensures, c.shared_net.ensures) refl)
    (one_more (λ i. inverter (output_net c.args.counts i) (shared_net c.args.counts i)) c.loop-y.y)
