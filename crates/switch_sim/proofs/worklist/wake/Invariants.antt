use Rattle.std.proofs.Common.{◌≡◌, ℕ, suc, ◌≤◌, length, get_or}
use Rattle.switch_net.specs.declared.network.Device.{Device}
use Rattle.switch_sim.specs.DueNets.{Wakes}
use Rattle.switch_sim.specs.Gating.{IsGatedBy}
use Rattle.switch_sim.proofs.DueNets.{AreWokenFrom}
use Rattle.switch_sim.proofs.worklist.wake.Given as goal

abbrev pub invariant-loop-behind : goal.invariant-loop-behind
invariant-loop-behind l = record {
  seen_size : length l.seen ≡ length l.fn.seen;
  watch_size : length l.watch ≡ length l.fn.watch;
  room : l.next.size ≡ l.fn.next.size;
  most : l.behind ≤ length l.sight.network.now.devices;
  at : (d : ℕ) (x : Device) → l.behind ≡ suc d → IsGatedBy (get_or l.sight.network.now.devices d x) l.net;
  wakes : Wakes l.fn.seen l.fn.next.nets l.seen l.next.nets;
  woken : AreWokenFrom l.sight.network.now l.sight.drive.now l.sight.levels.now l.net l.behind l.seen;
}

abbrev pub decreases-loop-behind : goal.decreases-loop-behind
decreases-loop-behind l = l.behind
