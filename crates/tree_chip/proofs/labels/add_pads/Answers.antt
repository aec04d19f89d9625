use Rattle.std.proofs.Common.{◌≡◌, [], ◌∷◌, slice_index_or, refl, ◌∙◌}
use Rattle.std.proofs.lemmas.List.{get_or_default}
use Rattle.cell_network.specs.Whole.{pad_at}
use Rattle.tree_chip.proofs.Adding.{extends, one_more}
use Rattle.tree_chip.proofs.labels.add_pads.Goals as goal

pub loop-i-preserved : goal.loop-i-preserved
loop-i-preserved c =
    let named : c.index-names-i.result ≡ slice_index_or c.args.names.now c.loop-i.i [] =
    c.index-names-i.is ∙ get_or_default c.args.names.now c.loop-i.i _ [] c.loop-i-test.true in
    extends c.args.pads.now.items c.loop-i.pads.items _ _ (pad_at c.args.role c.args.net c.args.names.now c.loop-i.i ∷ []) _ c.loop-i.invariant
    (c.in_ok-push.ensures.items ∙ rw named refl) (one_more (pad_at c.args.role c.args.net c.args.names.now) c.loop-i.i)
