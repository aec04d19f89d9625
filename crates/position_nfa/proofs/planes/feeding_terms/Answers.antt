use Rattle.std.proofs.Common.{[], ◌∷◌, refl, ◌∙◌}
use Rattle.std.proofs.lemmas.List.{append-nil}
use Rattle.position_nfa.proofs.PlaneSteps.{feeding_more}
use Rattle.position_nfa.proofs.planes.feeding_terms.Goals as goal

pub loop-k-preserved : goal.loop-k-preserved
loop-k-preserved c =
    feeding_more c.args.counts c.args.nfa.now c.args.position c.args.steps.now c.loop-k.k _ c.leads_to-leads.result c.term_net.result c.loop-k.inputs.items
    c.add_if.new.inputs.items c.loop-k-test.true c.leads_to-leads.ensures c.term_net.ensures c.loop-k.invariant c.in_ok-add_if.ensures
