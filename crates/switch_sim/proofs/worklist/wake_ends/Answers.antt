use Rattle.std.proofs.Common.{subst}
use Rattle.switch_sim.specs.DueNets.{IsWoken}
use Rattle.switch_sim.specs.Incidence.{one_end, other_end}
use Rattle.switch_sim.proofs.DueNets.{woken_more}
use Rattle.switch_sim.proofs.worklist.wake_ends.Goals as goal

pub returns-clause-one : goal.returns-clause-one
returns-clause-one c = λ gate low.
    let circuit = c.args.sight.now.network.now in
    let drives = c.args.sight.now.drive.now in
    let levels = c.args.sight.now.levels.now in
    let seen = c.wake_end-2.new.seen in
    subst (λ end. IsWoken circuit drives levels seen gate end (other_end c.args.device)) c.one_end-one.ensures
    (subst (λ other. IsWoken circuit drives levels seen gate c.one_end-one.result other) c.other_end-other.ensures
    (woken_more circuit drives levels _ _ _ _ c.wake_end-2.ensures.wakes gate c.one_end-one.result c.other_end-other.result (c.wake_end.ensures.woken gate low)))

pub returns-clause-other : goal.returns-clause-other
returns-clause-other c = λ gate low.
    let circuit = c.args.sight.now.network.now in
    let drives = c.args.sight.now.drive.now in
    let levels = c.args.sight.now.levels.now in
    let seen = c.wake_end-2.new.seen in
    subst (λ end. IsWoken circuit drives levels seen gate end (one_end c.args.device)) c.other_end-other.ensures
    (subst (λ one. IsWoken circuit drives levels seen gate c.other_end-other.result one) c.one_end-one.ensures (c.wake_end-2.ensures.woken gate low))
