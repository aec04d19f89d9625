use Rattle.std.proofs.Common.{length, ap, arith}
use Rattle.switch_sim.proofs.FewPads.{few_pads}
use Rattle.switch_sim.proofs.run.pads_of.Goals as goal

pub prove-unreachable-requires : goal.prove-unreachable-requires
prove-unreachable-requires c =
    let few = few_pads c.args.network.now c.pads-pads.ensures.valid in
    let size = ap length c.pads-pads.ensures.pads in
    omega (arith, few, size)
