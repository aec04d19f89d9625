use Rattle.std.proofs.Common.{◌≡◌, ◌≢◌, ◌-◌, ◌⊎◌, inr, length, get_or, true, refl, arith, sym, ap, subst, ◌∙◌}
use Rattle.switch_net.specs.declared.network.Level.{Level}
use Rattle.switch_net.specs.declared.network.Level.TheVariants.{Low, High}
use Rattle.switch_sim.specs.Grouping.{IsFollowed}
use Rattle.switch_sim.specs.Incidence.{IsLeastAbove}
use Rattle.switch_sim.proofs.Grouping.{AreFollowed, charge_more, charge_true, none_followed, one_followed, all_followed, then_more, then_true}
use Rattle.switch_sim.proofs.group.visit.Goals as goal

pub loop-behind-init : goal.loop-behind-init
loop-behind-init c =
    let size = c.requires.sight.last in
    let within = c.requires.within in
    let chain = subst (IsLeastAbove c.args.sight.now.network.now.devices (length c.args.sight.now.network.now.devices) c.args.net)
    (sym c.behind_last-behind.ensures) (c.requires.sight.chains.last c.args.net (omega (arith, size, within))) in
    let charge = c.charge_of-charge.ensures in
    record {
      room = refl;
      most = chain.most;
      at = chain.at;
      more = charge_more c.args.sight.now c.args.conduct c.args.net _ _ _ c.charge_of-charge.result c.add_charge.ensures.low c.add_charge.ensures.high
          c.add_charge.ensures.is_low c.add_charge.ensures.is_high;
      sound = charge_true c.args.sight.now c.args.conduct c.args.net _ _ _ c.add_charge.ensures.low c.add_charge.ensures.high
          (λ e. subst (λ (l : Level). (c.args.found.now.not_low ≡ true) ⊎ (l ≢ Low)) charge (c.add_charge.ensures.not_low e))
          (λ e. subst (λ (l : Level). (c.args.found.now.not_high ≡ true) ⊎ (l ≢ High)) charge (c.add_charge.ensures.not_high e));
      not_low = λ e. c.add_charge.ensures.is_low (inr (λ low. e (sym charge ∙ low)));
      not_high = λ e. c.add_charge.ensures.is_high (inr (λ high. e (sym charge ∙ high)));
      followed = none_followed c.args.sight.now c.args.conduct c.args.net _ _ _ chain;
    }

pub follow-requires-clause-of : goal.follow-requires-clause-of
follow-requires-clause-of c =
    let most = c.loop-behind.invariant.most in
    record {
      at = c.loop-behind.behind - 1;
      within = omega arith;
      is = c.device_at-device.ensures c.device_at-device.result;
    }

pub loop-behind-preserved : goal.loop-behind-preserved
loop-behind-preserved c =
    let before = c.loop-behind.invariant in
    let most = before.most in
    let chain = subst (λ ds. IsLeastAbove ds (c.loop-behind.behind - 1) c.args.net c.behind_earlier-behind.result) c.devices.ensures
    c.behind_earlier-behind.ensures in
    record {
      room = c.follow.ensures.room ∙ before.room;
      most = let under = chain.most in omega arith;
      at = chain.at;
      more = then_more _ _ _ _ _ _ before.more c.follow.ensures.more;
      sound = then_true c.args.sight.now c.args.conduct c.args.net _ _ _ _ _ _ before.more before.sound c.follow.ensures.sound;
      not_low = λ e. c.follow.ensures.more.not_low (before.not_low e);
      not_high = λ e. c.follow.ensures.more.not_high (before.not_high e);
      followed = one_followed c.args.sight.now c.args.conduct c.args.net _ _ _ _ c.follow.ensures.more (c.loop-behind.behind - 1) _ c.loop-behind.behind
          (omega arith)
          (λ d x same. subst (IsFollowed c.args.sight.now c.args.conduct c.args.net _ _)
          (sym (ap (λ k. get_or c.args.sight.now.network.now.devices k x) same ∙ c.device_at-device.ensures x)) c.follow.ensures.followed)
          chain before.followed;
    }

pub returns-clause-visited : goal.returns-clause-visited
returns-clause-visited c =
    let before = c.loop-behind.invariant in
    let done : c.loop-behind.behind ≡ 0 = omega arith in
    record {
      devices = all_followed c.args.sight.now c.args.conduct c.args.net _ _
          (subst (AreFollowed c.args.sight.now c.args.conduct c.args.net _ _) done before.followed);
      not_low = before.not_low;
      not_high = before.not_high;
    }
