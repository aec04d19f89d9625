-- The boxes so far are held.
use Rattle.std.proofs.Common.{◌≡◌}
use Rattle.canonical_boxes.specs.Sweeps.{IsHeld}
use Rattle.canonical_boxes.proofs.sweep.Sweep.rise.Given as goal

abbrev pub invariant-loop-number : goal.invariant-loop-number
invariant-loop-number l = record {
  held : IsHeld l.fn.self.boxes.now l.number l.y l.self.runs;
  boxes : l.self.boxes.now ≡ l.fn.self.boxes.now;
}
