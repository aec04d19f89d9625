use Rattle.std.proofs.Common.{[], ◌∷◌, refl, ◌∙◌}
use Rattle.std.proofs.lemmas.List.{append-nil}
use Rattle.position_nfa.proofs.PlaneSteps.{step_term_more}
use Rattle.position_nfa.proofs.planes.add_terms.Goals as goal

pub loop-k-preserved : goal.loop-k-preserved
loop-k-preserved c =
    step_term_more c.args.counts c.args.symbols.now c.args.steps.now c.loop-k.k _ c.in_ok-inputs.inputs.items c.args.gates.now.items c.loop-k.gates.items
    c.push.new.self.items c.loop-k-test.true c.in_ok-inputs.ensures c.loop-k.invariant
    (c.in_ok-push.ensures.items ∙ rw (c.new.ensures, c.term_net.ensures) refl)
