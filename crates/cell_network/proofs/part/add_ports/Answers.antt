use Rattle.std.proofs.Common.{ℕ, ◌+◌, [], ◌∷◌}
use Rattle.nor_net.specs.declared.part.PartPort.{PartPort}
use Rattle.cell_network.proofs.Adding.{extends, one_more}
use Rattle.cell_network.proofs.part.add_ports.Goals as goal

pub loop-i-preserved : goal.loop-i-preserved
loop-i-preserved c =
    let port : ℕ → PartPort = λ i. record { name = c.args.name + i; net = c.args.net + i } in
    extends c.args.ports.now.items c.loop-i.ports.items _ _ (port c.loop-i.i ∷ []) _ c.loop-i.invariant c.in_ok-push.ensures.items (one_more port c.loop-i.i)
