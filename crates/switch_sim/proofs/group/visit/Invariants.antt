use Rattle.std.proofs.Common.{◌≡◌, ◌≢◌, ℕ, suc, ◌≤◌, length, get_or, true}
use Rattle.switch_net.specs.declared.network.Device.{Device}
use Rattle.switch_net.specs.declared.network.Level.TheVariants.{Low, High}
use Rattle.switch_sim.specs.Grouping.{IsMore, StaysTrue}
use Rattle.switch_sim.specs.Incidence.{EndsAt}
use Rattle.switch_sim.specs.Simulation.{level_at}
use Rattle.switch_sim.proofs.Grouping.{AreFollowed}
use Rattle.switch_sim.proofs.group.visit.Given as goal

abbrev pub invariant-loop-behind : goal.invariant-loop-behind
invariant-loop-behind l = record {
  room : l.group.size ≡ l.fn.group.size;
  most : l.behind ≤ length l.sight.network.now.devices;
  at : (d : ℕ) (x : Device) → l.behind ≡ suc d → EndsAt (get_or l.sight.network.now.devices d x) l.net;
  more : IsMore l.fn.group.nets l.fn.found l.group.nets l.found;
  sound : StaysTrue l.sight l.conduct l.net l.fn.group.nets l.fn.found l.group.nets l.found;
  not_low : level_at l.sight.charges.now l.net ≢ Low → l.found.not_low ≡ true;
  not_high : level_at l.sight.charges.now l.net ≢ High → l.found.not_high ≡ true;
  followed : AreFollowed l.sight l.conduct l.net l.group.nets l.found l.behind;
}

abbrev pub decreases-loop-behind : goal.decreases-loop-behind
decreases-loop-behind l = l.behind
