use Rattle.std.proofs.Common.{[], ◌∷◌, refl, ◌∙◌}
use Rattle.cell_network.specs.Whole.{load_gate}
use Rattle.cell_network.proofs.Adding.{extends, one_more}
use Rattle.cell_network.proofs.whole.add_load_gates.Goals as goal

pub loop-y-preserved : goal.loop-y-preserved
loop-y-preserved c =
    extends c.args.gates.now.items c.loop-y.gates.items _ _ (load_gate c.args.counts c.loop-y.y ∷ []) _ c.loop-y.invariant
    (c.in_ok-push.ensures.items ∙ rw (c.new-in-loop-y.ensures, c.new.ensures.items, c.shared_net.ensures) refl)
    (one_more (load_gate c.args.counts) c.loop-y.y)
