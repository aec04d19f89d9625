-- Steps go one by one, and no other changes.
use Rattle.std.specs.BTreeMap.{btree_map_len}
use Rattle.canonical_boxes.proofs.Skies.{IsClearing}
use Rattle.canonical_boxes.proofs.gaps.clear.Given as goal

abbrev pub invariant-loop-step : goal.invariant-loop-step
invariant-loop-step l = IsClearing l.from l.to l.initial.tops l.tops

abbrev pub decreases-loop-step : goal.decreases-loop-step
decreases-loop-step l = btree_map_len l.tops
