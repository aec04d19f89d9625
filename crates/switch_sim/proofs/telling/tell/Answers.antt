use Rattle.std.proofs.Common.{◌≡◌, ◌<◌, length, refl, sym, subst, ◌∙◌, arith}
use Rattle.std.specs.Prelude.{None}
use Rattle.switch_net.specs.declared.network.Level.TheVariants.{Unknown}
use Rattle.switch_sim.specs.Grouping.{told_at}
use Rattle.switch_sim.specs.Simulation.{level_at}
use Rattle.switch_sim.specs.Waiting.{Waits}
use Rattle.switch_sim.proofs.DueNets.{none_wakes, then_wakes, unknown_before, none_here, woken_next, none_told, quiet_next}
use Rattle.switch_sim.proofs.Grouping.{number_waits}
use Rattle.switch_sim.proofs.RightlyTold.{each_waits}
use Rattle.switch_sim.proofs.ToldLevels.{none_leads, leads_next, rest_next, fewer_next}
use Rattle.switch_sim.proofs.telling.tell.Goals as goal

pub loop-at-init : goal.loop-at-init
loop-at-init c = record {
  levels_size = refl;
  seen_size = refl;
  watch_size = refl;
  next_room = refl;
  leads = λ free why. none_leads c.args.scene.now.network.now c.args.scene.now.drive.now c.args.scene.now.charges.now c.args.levels.now;
  none = λ i lt. absurd (omega arith);
  woken = λ k differs. absurd (differs refl);
  wakes = none_wakes _ _;
  quiet = λ e. refl;
  rest = λ e. refl;
  fewer = λ e. absurd (cc);
}

pub loop-at-preserved : goal.loop-at-preserved
loop-at-preserved c =
    let before = c.loop-at.invariant in
    let nets = c.args.group.now.nets in
    let count = c.len-at-end.ensures.count in
    let lt : c.loop-at.at < length nets = omega arith in
    let size = before.levels_size in
    let room = c.requires.group_room in
    let wide = c.requires.levels_size in
    let within = c.get.ensures.within in
    let below : c.get.result < length c.loop-at.levels = omega arith in
    let member = subst (Waits nets) (sym c.get.ensures.net) (number_waits nets c.loop-at.at lt) in
    let step = c.tell_and_wake-changed.ensures in
    let result = c.tell_and_wake-changed.result in
    record {
      levels_size = step.levels_size ∙ before.levels_size;
      seen_size = step.seen_size ∙ before.seen_size;
      watch_size = step.watch_size ∙ before.watch_size;
      next_room = step.next_room ∙ before.next_room;
      leads = λ free why.
          leads_next _ _ _ _ _ below c.loop-at.changed _ step.tells step.rest c.args.scene.now.network.now c.args.scene.now.drive.now c.args.scene.now.charges.now
          (size ∙ c.requires.levels_size) (free c.get.result member) (λ level e. why c.get.result level member e) (before.leads free why);
      none = none_told c.loop-at.levels _ nets c.args.told.now c.loop-at.at
          (unknown_before c.loop-at.levels _ c.args.told.now c.get.result below result step.tells step.rest)
          (subst (λ k. level_at c.tell_and_wake-changed.new.levels k ≡ Unknown → told_at c.args.told.now k ≡ None) c.get.ensures.net
          (none_here c.loop-at.levels _ c.args.told.now c.get.result below result step.tells step.rest step.none)) before.none;
      woken = woken_next c.loop-at.levels _ c.args.told.now c.get.result below result step.tells step.rest c.args.scene.now.network.now c.args.scene.now.drive.now
          c.args.levels.now _ _ _ _ step.wakes step.woken before.woken;
      wakes = then_wakes _ _ _ _ _ _ before.wakes step.wakes;
      quiet = quiet_next _ _ _ c.loop-at.changed result before.quiet step.quiet;
      rest = rest_next _ _ _ c.args.told.now _ below _ _ step.tells step.rest before.rest;
      fewer = fewer_next _ _ _ c.args.told.now _ below _ _ step.tells step.rest before.rest before.fewer;
    }

pub returns-clause-none : goal.returns-clause-none
returns-clause-none c =
    let count = c.len-at-end.ensures.count in
    each_waits (λ k. level_at c.loop-at.levels k ≡ Unknown → told_at c.args.told.now k ≡ None) c.args.group.now.nets c.loop-at.at (omega arith)
    c.loop-at.invariant.none
