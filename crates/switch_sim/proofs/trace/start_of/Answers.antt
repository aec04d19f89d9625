use Rattle.std.proofs.Common.{◌≡◌, suc, ◌-◌, ◌<◌, sym, ap, ◌∙◌, arith, length}
use Rattle.switch_sim.specs.TraceReading.{start_from}
use Rattle.switch_sim.proofs.Cuts.{start_is}
use Rattle.switch_sim.proofs.trace.start_of.Goals as goal

pub returns-else-at-eq0 : goal.returns-else-at-eq0
returns-else-at-eq0 c =
    let before : suc (c.args.at - 1) ≡ c.args.at = omega (arith, c.if-at-eq0.false) in
    let lt : c.args.at - 1 < length c.args.ends.now = omega (arith, c.requires) in
    sym (start_is 0 c.args.ends.now (c.args.at - 1) lt) ∙ ap (start_from 0 c.args.ends.now) before
