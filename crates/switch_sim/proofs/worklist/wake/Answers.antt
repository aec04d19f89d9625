use Rattle.std.proofs.Common.{◌≡◌, ◌<◌, ◌-◌, length, get_or, refl, arith, sym, ap, subst, ◌∙◌}
use Rattle.switch_net.specs.ClockedLogic.{NamesBelow}
use Rattle.switch_sim.specs.Gating.{IsLeastGated}
use Rattle.switch_sim.proofs.Chains.{nowhere, one_below, other_below}
use Rattle.switch_sim.proofs.DueNets.{AreWokenFrom, BothWoken, none_wakes, then_wakes, none_woken, one_woken, all_woken}
use Rattle.switch_sim.proofs.worklist.wake.Goals as goal

pub loop-behind-init : goal.loop-behind-init
loop-behind-init c =
    let devices = c.args.sight.now.network.now.devices in
    let chain = subst (IsLeastGated devices (length devices) c.args.net) (sym c.behind_last-behind.ensures) (c.requires.gates.last c.args.net c.requires.within) in
    record {
      seen_size = refl;
      watch_size = refl;
      room = refl;
      most = chain.most;
      at = chain.at;
      wakes = none_wakes _ _;
      woken = none_woken c.args.sight.now.network.now c.args.sight.now.drive.now c.args.sight.now.levels.now c.args.net _ _ chain;
    }

pub returns-clause-woken : goal.returns-clause-woken
returns-clause-woken c =
    let done : c.loop-behind.behind ≡ 0 = omega arith in
    let circuit = c.args.sight.now.network.now in
    let drives = c.args.sight.now.drive.now in
    let levels = c.args.sight.now.levels.now in
    all_woken circuit drives levels c.args.net _
    (subst (λ n. AreWokenFrom circuit drives levels c.args.net n c.loop-behind.seen) done c.loop-behind.invariant.woken)

pub wake_ends-requires-clause-one : goal.wake_ends-requires-clause-one
wake_ends-requires-clause-one c =
    let most = c.loop-behind.invariant.most in
    let here = c.requires.sight.valid.devices_below (c.loop-behind.behind - 1) c.device_at.result (omega arith) in
    one_below c.args.sight.now.network.now.nets c.device_at.result (subst (NamesBelow c.args.sight.now.network.now.nets) (c.device_at.ensures c.device_at.result) here)

pub wake_ends-requires-clause-other : goal.wake_ends-requires-clause-other
wake_ends-requires-clause-other c =
    let most = c.loop-behind.invariant.most in
    let here = c.requires.sight.valid.devices_below (c.loop-behind.behind - 1) c.device_at.result (omega arith) in
    other_below c.args.sight.now.network.now.nets c.device_at.result (subst (NamesBelow c.args.sight.now.network.now.nets) (c.device_at.ensures c.device_at.result) here)

pub loop-behind-preserved : goal.loop-behind-preserved
loop-behind-preserved c =
    let before = c.loop-behind.invariant in
    let most = before.most in
    let circuit = c.args.sight.now.network.now in
    let drives = c.args.sight.now.drive.now in
    let levels = c.args.sight.now.levels.now in
    let at = c.loop-behind.behind - 1 in
    let lt : at < length circuit.devices = omega arith in
    let gated = before.at at nowhere (omega arith) in
    let chain = subst (IsLeastGated circuit.devices at c.args.net) (sym c.behind_earlier-behind.ensures)
    (c.requires.gates.earlier at nowhere c.args.net lt gated) in
    record {
      seen_size = c.wake_ends.ensures.seen_size ∙ before.seen_size;
      watch_size = c.wake_ends.ensures.watch_size ∙ before.watch_size;
      room = c.wake_ends.ensures.room ∙ before.room;
      most = let under = chain.most in omega arith;
      at = chain.at;
      wakes = then_wakes _ _ _ _ _ _ before.wakes c.wake_ends.ensures.wakes;
      woken = one_woken circuit drives levels c.args.net _ _ _ _ c.wake_ends.ensures.wakes at _ c.loop-behind.behind (omega arith)
          (λ d x same. subst (BothWoken circuit drives levels c.args.net c.wake_ends.new.seen)
          (sym (ap (λ k. get_or circuit.devices k x) same ∙ c.device_at.ensures x))
          (c.wake_ends.ensures.one c.args.net c.is_low-low.ensures, c.wake_ends.ensures.other c.args.net c.is_low-low.ensures))
          chain before.woken;
    }

pub loop-behind-smaller : goal.loop-behind-smaller
loop-behind-smaller c =
    let before = c.loop-behind.invariant in
    let most = before.most in
    let devices = c.args.sight.now.network.now.devices in
    let at = c.loop-behind.behind - 1 in
    let lt : at < length devices = omega arith in
    let chain = c.requires.gates.earlier at nowhere c.args.net lt (before.at at nowhere (omega arith)) in
    let under = chain.most in
    let is = c.behind_earlier-behind.ensures in
    omega (arith, under, is)
