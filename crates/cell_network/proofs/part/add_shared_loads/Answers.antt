use Rattle.std.proofs.Common.{ℕ, [], ◌∷◌, refl, ◌∙◌}
use Rattle.cell_network.specs.declared.part_net.PartNet.TheVariants.{Shared}
use Rattle.cell_network.specs.Shapes.{number}
use Rattle.cell_network.proofs.Adding.{extends, one_more}
use Rattle.cell_network.proofs.part.add_shared_loads.Goals as goal

pub loop-y-preserved : goal.loop-y-preserved
loop-y-preserved c =
    let wire : ℕ → ℕ = λ y. number c.args.numbers.now (Shared y) in
    extends c.args.loads.now.items c.loop-y.loads.items _ _ (wire c.loop-y.y ∷ []) _ c.loop-y.invariant (c.in_ok-push.ensures.items ∙ rw c.number.ensures refl) (one_more wire c.loop-y.y)
