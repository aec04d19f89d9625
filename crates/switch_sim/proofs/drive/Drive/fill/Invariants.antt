use Rattle.std.proofs.Common.{◌≡◌, ◌≤◌, ◌++◌, take, drop}
use Rattle.switch_net.specs.Clock.{drives_from, drives_of}
use Rattle.switch_sim.proofs.drive.Drive.fill.Given as goal

abbrev pub invariant-loop-at : goal.invariant-loop-at
invariant-loop-at l = record {
  driven : take l.at l.values ++ drives_from l.self (drop l.line l.self.lines) (drop l.at l.pads) ≡ drives_of l.self l.pads;
  few : l.line ≤ l.at;
}
