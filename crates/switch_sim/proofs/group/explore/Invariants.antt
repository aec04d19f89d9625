use Rattle.std.proofs.Common.{◌≡◌, ◌-◌}
use Rattle.switch_sim.specs.Grouping.{IsSound}
use Rattle.switch_sim.specs.Waiting.{Waits}
use Rattle.switch_sim.proofs.Grouping.{AreVisited}
use Rattle.switch_sim.proofs.group.explore.Given as goal

abbrev pub invariant-loop-at : goal.invariant-loop-at
invariant-loop-at l = record {
  room : l.group.size ≡ l.fn.group.size;
  begun : Waits l.group.nets l.net;
  sound : IsSound l.sight l.conduct l.net l.group.nets l.found;
  visited : AreVisited l.sight l.conduct l.net l.group.nets l.found l.at;
}

abbrev pub decreases-loop-at : goal.decreases-loop-at
decreases-loop-at l = l.group.size - l.at
