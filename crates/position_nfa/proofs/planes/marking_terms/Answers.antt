use Rattle.std.proofs.Common.{[], ◌∷◌, refl, ◌∙◌}
use Rattle.std.proofs.lemmas.List.{append-nil}
use Rattle.position_nfa.proofs.PlaneSteps.{marking_more}
use Rattle.position_nfa.proofs.planes.marking_terms.Goals as goal

pub loop-k-preserved : goal.loop-k-preserved
loop-k-preserved c =
    marking_more c.args.counts c.args.nfa.now c.args.output c.args.from c.args.marked.now c.loop-k.k _ c.has_output-marks.result c.mask_of.result c.term_net.result
    c.loop-k.inputs.items c.add_if.new.inputs.items c.loop-k-test.true c.has_output-marks.ensures c.mask_of.ensures c.term_net.ensures c.loop-k.invariant
    c.in_ok-add_if.ensures
