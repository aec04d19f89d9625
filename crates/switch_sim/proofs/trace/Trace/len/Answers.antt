use Rattle.std.proofs.Common.{sym, ap, ◌∙◌, length}
use Rattle.switch_sim.proofs.Cuts.{length_cut}
use Rattle.switch_sim.proofs.trace.Trace.len.Goals as goal

pub returns-clause-count : goal.returns-clause-count
returns-clause-count c =
    ap length c.deref-ends.ensures.value ∙ sym (length_cut 0 c.self.inside.ends.items c.self.inside.bits.items) ∙ ap length c.self.view_is
