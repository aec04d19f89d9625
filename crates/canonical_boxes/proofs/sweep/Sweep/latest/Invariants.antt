-- What is held stays right, and one box fewer is held each time.
use Rattle.std.proofs.Common.{◌≡◌}
use Rattle.std.specs.BTreeMap.{btree_map_len}
use Rattle.canonical_boxes.specs.Sweeps.{IsHeld}
use Rattle.canonical_boxes.proofs.sweep.Sweep.latest.Given as goal

abbrev pub invariant-loop-number : goal.invariant-loop-number
invariant-loop-number l = record {
  held : IsHeld l.fn.self.boxes.now l.fn.self.begun l.y l.self.runs;
  boxes : l.self.boxes.now ≡ l.fn.self.boxes.now;
  begun : l.self.begun ≡ l.fn.self.begun;
}

abbrev pub decreases-loop-number : goal.decreases-loop-number
decreases-loop-number l = btree_map_len l.self.runs
