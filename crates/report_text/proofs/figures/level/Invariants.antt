use Rattle.std.proofs.Common.{◌≡◌, ℕ, ◌-◌, ◌≤◌, ◌^◌}
use Rattle.report_text.proofs.figures.level.Given as goal

abbrev pub invariant-loop-room : goal.invariant-loop-room
invariant-loop-room l = record {
  power : l.room ≡ 4 ^ l.level;
  some : 1 ≤ l.room;
  few : l.level ≤ 7;
  least : (j : ℕ) → l.count ≤ 4 ^ j → l.level ≤ j;
}

abbrev pub decreases-loop-room : goal.decreases-loop-room
decreases-loop-room l = l.count - l.room
