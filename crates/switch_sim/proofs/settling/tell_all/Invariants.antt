use Rattle.std.proofs.Common.{◌≡◌, length}
use Rattle.switch_sim.specs.DueNets.{AreHandled, AreListed}
use Rattle.switch_sim.specs.Rooms.{HaveRoom}
use Rattle.switch_sim.specs.ToldLevels.{LeadsOn}
use Rattle.switch_sim.proofs.Settles.{work}
use Rattle.switch_sim.proofs.settling.tell_all.Given as goal

abbrev pub invariant-loop-net : goal.invariant-loop-net
invariant-loop-net l = record {
  levels_size : length l.levels ≡ length l.fn.levels;
  room : HaveRoom l.scene.network.now.nets l.lists;
  told_size : length l.told ≡ length l.fn.told;
  seen_size : length l.seen ≡ length l.fn.seen;
  watch_size : length l.watch ≡ length l.fn.watch;
  leads : LeadsOn l.scene.network.now l.scene.drive.now l.scene.charges.now l.fn.levels l.levels;
  handled : AreHandled l.scene.network.now l.scene.drive.now l.scene.charges.now l.levels l.seen;
  listed : AreListed l.scene.network.now l.scene.drive.now l.seen l.lists.now.nets l.lists.next.nets;
}

abbrev pub decreases-loop-net : goal.decreases-loop-net
decreases-loop-net l = work l.scene.network.now.nets l.levels l.lists.now.nets l.lists.next.nets
