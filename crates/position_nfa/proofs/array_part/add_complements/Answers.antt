use Rattle.std.proofs.Common.{[], ◌∷◌, refl, ◌∙◌}
use Rattle.position_nfa.specs.Registers.{inverter, complement_net, line_net}
use Rattle.position_nfa.proofs.Adding.{extends, one_more}
use Rattle.position_nfa.proofs.array_part.add_complements.Goals as goal

pub loop-i-preserved : goal.loop-i-preserved
loop-i-preserved c =
    extends c.args.gates.now.items c.loop-i.gates.items _ _ (inverter (complement_net c.args.counts c.loop-i.i) (line_net c.args.counts c.loop-i.i) ∷ []) _
    c.loop-i.invariant (c.in_ok-add_inverter.ensures ∙ rw (c.complement_net.ensures, c.line_net.ensures) refl)
    (one_more (λ i. inverter (complement_net c.args.counts i) (line_net c.args.counts i)) c.loop-i.i)
