use Rattle.std.proofs.Common.{◌<◌, ◌∙◌, refl, sym, ap, subst, length, arith}
use Rattle.switch_net.specs.LeastLevels.AreToldByOnes.{unknown}
use Rattle.switch_sim.specs.Simulation.{level_at}
use Rattle.switch_sim.specs.DueNets.{AreListed}
use Rattle.switch_sim.specs.Waiting.{WaitingNets}
use Rattle.switch_sim.proofs.Settles.{work, then_leads, none_told, still_listed, less_work}
use Rattle.switch_sim.proofs.ToldLevels.{none_leads}
use Rattle.switch_sim.proofs.settling.tell_all.Goals as goal

pub loop-net-init : goal.loop-net-init
loop-net-init c = record {
  levels_size = refl;
  room = c.requires.room;
  told_size = refl;
  seen_size = refl;
  watch_size = refl;
  leads = none_leads c.args.scene.now.network.now c.args.scene.now.drive.now c.args.scene.now.charges.now c.args.levels.now;
  handled = c.requires.handled;
  listed = c.requires.listed;
}

pub loop-net-preserved : goal.loop-net-preserved
loop-net-preserved c =
    let before = c.loop-net.invariant in
    let looked = c.look_if_due.ensures in
    let remain = rw c.in-Some.is at c.take.ensures.some in
    record {
      levels_size = looked.levels_size ∙ before.levels_size;
      room = looked.room;
      told_size = looked.told_size ∙ before.told_size;
      seen_size = looked.seen_size ∙ before.seen_size;
      watch_size = looked.watch_size ∙ before.watch_size;
      leads = then_leads c.args.scene.now.network.now c.args.scene.now.drive.now c.args.scene.now.charges.now _ _ _ before.leads looked.leads;
      handled = looked.handled before.handled;
      listed = subst (λ (w : WaitingNets). AreListed c.args.scene.now.network.now c.args.scene.now.drive.now c.look_if_due.new.seen w.nets c.look_if_due.new.lists.next.nets) (sym looked.now)
          (still_listed c.args.scene.now.network.now c.args.scene.now.drive.now _ _ _ _ _ _ _ c.in-Some.net before.listed remain looked.listed looked.kept);
    }

pub loop-net-smaller : goal.loop-net-smaller
loop-net-smaller c =
    let before = c.loop-net.lists in
    let left = c.take.new in
    let looked = c.look_if_due.new in
    let nets = c.args.scene.now.network.now.nets in
    let fewer = rw c.in-Some.is at c.take.ensures.less in
    let same = ap (λ (w : WaitingNets). length w.nets) c.look_if_due.ensures.now in
    let now_room = c.look_if_due.ensures.room.now in
    let next_room = c.look_if_due.ensures.room.next in
    let fits = c.fits.ensures in
    let fits_next = c.look_if_due.ensures.fits in
    subst (λ (w : WaitingNets). work nets looked.levels w.nets looked.lists.next.nets < work nets c.loop-net.levels before.now.nets before.next.nets)
    (sym c.look_if_due.ensures.now)
    (less_work nets c.loop-net.levels looked.levels before.now.nets before.next.nets left.now.nets left.next.nets looked.lists.next.nets fewer
    (omega (arith, same, now_room, fits)) (omega (arith, next_room, fits_next)) c.look_if_due.ensures.closer)

pub returns-clause-levels : goal.returns-clause-levels
returns-clause-levels c =
    let circuit = c.args.scene.now.network.now in
    let done = c.loop-net.invariant in
    c.settled_levels_are_least.ensures.any_order circuit c.requires.scene.valid c.args.scene.now.drive.now (level_at c.args.scene.now.charges.now) (level_at c.loop-net.levels)
    (done.leads.ones (unknown (level_at c.args.levels.now) c.requires.unknown))
    (none_told circuit c.args.scene.now.drive.now c.args.scene.now.charges.now c.loop-net.levels c.loop-net.seen c.loop-net.lists.now.nets c.loop-net.lists.next.nets done.handled done.listed
    (c.take.ensures.none c.in_default.is))
