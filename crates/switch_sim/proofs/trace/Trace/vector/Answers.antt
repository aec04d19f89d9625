use Rattle.std.proofs.Common.{ap, length, arith}
use Rattle.switch_sim.proofs.Cuts.{length_cut}
use Rattle.switch_sim.proofs.trace.Trace.vector.Goals as goal

pub slice_between-requires-clause-within : goal.slice_between-requires-clause-within
slice_between-requires-clause-within c =
    let size = length_cut 0 c.self.inside.ends.items c.self.inside.bits.items in
    let same = ap length c.self.view_is in
    let held = ap length c.deref-2.ensures.value in
    omega (arith, c.requires)
