use Rattle.std.proofs.Common.{[], ◌∷◌, refl, ◌∙◌}
use Rattle.std.proofs.lemmas.List.{append-nil}
use Rattle.position_nfa.proofs.PlaneSteps.{mark_term_more}
use Rattle.position_nfa.proofs.planes.add_mark_terms.Goals as goal

pub loop-k-preserved : goal.loop-k-preserved
loop-k-preserved c =
    mark_term_more c.args.counts c.args.from c.args.marked.now c.loop-k.k _ c.new-inputs.result.items c.add_state_inputs.new.inputs.items c.args.gates.now.items c.loop-k.gates.items
    c.push.new.self.items c.loop-k-test.true c.new-inputs.ensures.items c.in_ok-add_state_inputs.ensures c.loop-k.invariant
    (c.in_ok-push.ensures.items ∙ rw (c.new.ensures, c.term_net.ensures) refl)
