use Rattle.std.proofs.Common.{◌≡◌, [], ◌∷◌, slice_index_or, refl, ◌∙◌}
use Rattle.std.proofs.lemmas.List.{get_or_default}
use Rattle.position_nfa.specs.Registers.{output_pad}
use Rattle.position_nfa.proofs.Adding.{extends, one_more}
use Rattle.position_nfa.proofs.netlist.add_output_pads.Goals as goal

pub loop-y-preserved : goal.loop-y-preserved
loop-y-preserved c =
    let named : c.index-names-y.result ≡ slice_index_or c.args.names.now c.loop-y.y [] =
    c.index-names-y.is ∙ get_or_default c.args.names.now c.loop-y.y _ [] c.loop-y-test.true in
    extends c.args.pads.now.items c.loop-y.pads.items _ _ (output_pad c.args.counts c.args.names.now c.loop-y.y ∷ []) _ c.loop-y.invariant
    (c.in_ok-push.ensures.items ∙ rw (c.named.ensures, c.output_net.ensures, named) refl) (one_more (output_pad c.args.counts c.args.names.now) c.loop-y.y)
