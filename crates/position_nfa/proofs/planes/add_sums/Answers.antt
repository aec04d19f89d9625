use Rattle.std.proofs.lemmas.List.{length-map}
use Rattle.std.proofs.Common.{[], ◌∷◌, map, refl, ◌∙◌}
use Rattle.position_nfa.specs.Registers.{step_named, sum_gate}
use Rattle.position_nfa.proofs.Adding.{extends, one_more}
use Rattle.position_nfa.proofs.planes.add_sums.Goals as goal

pub loop-position-preserved : goal.loop-position-preserved
loop-position-preserved c =
    extends c.args.gates.now.items c.loop-position.gates.items _ _
    (sum_gate c.args.counts c.args.nfa.now (map step_named c.args.steps.now) c.loop-position.position ∷ []) _ c.loop-position.invariant
    (c.in_ok-push.ensures.items ∙ rw (c.new.ensures, c.sum_net.ensures, c.in_ok-inputs.ensures, length-map c.args.steps.now step_named) refl)
    (one_more (sum_gate c.args.counts c.args.nfa.now (map step_named c.args.steps.now)) c.loop-position.position)
