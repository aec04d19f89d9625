use Rattle.std.proofs.Common.{◌≡◌, [], ◌∷◌, slice_index_or, refl, ◌∙◌}
use Rattle.std.proofs.lemmas.List.{get_or_default}
use Rattle.position_nfa.specs.Registers.{line_pad}
use Rattle.position_nfa.proofs.Adding.{extends, one_more}
use Rattle.position_nfa.proofs.netlist.add_line_pads.Goals as goal

pub loop-i-preserved : goal.loop-i-preserved
loop-i-preserved c =
    let named : c.index-names-i.result ≡ slice_index_or c.args.names.now c.loop-i.i [] =
    c.index-names-i.is ∙ get_or_default c.args.names.now c.loop-i.i _ [] c.loop-i-test.true in
    extends c.args.pads.now.items c.loop-i.pads.items _ _ (line_pad c.args.counts c.args.names.now c.loop-i.i ∷ []) _ c.loop-i.invariant
    (c.in_ok-push.ensures.items ∙ rw (c.named.ensures, c.line_net.ensures, named) refl) (one_more (line_pad c.args.counts c.args.names.now) c.loop-i.i)
