use Rattle.std.proofs.Common.{◌≡◌, ◌-◌, ◌^◌, ℕ, ◌<◌, ◌≤◌}
use Rattle.tree_layout.proofs.levels.level_of.Given as goal

abbrev pub invariant-loop-room : goal.invariant-loop-room
invariant-loop-room l = (l.room ≡ 4 ^ l.level) × ((j : ℕ) → j < l.level → 4 ^ j < l.number) × (l.level ≤ 7) × (l.room ≤ 16384)

abbrev pub decreases-loop-room : goal.decreases-loop-room
decreases-loop-room l = 8 - l.level
