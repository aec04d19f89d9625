-- The pairs in the other order so far.
use Rattle.std.proofs.Common.{take}
use Rattle.box_distances.proofs.Nears.{BothSoFar}
use Rattle.box_distances.proofs.pairs.near.Given as goal

abbrev pub invariant-loop-pair : goal.invariant-loop-pair
invariant-loop-pair l = BothSoFar l.initial.found.items (take l.pair-index l.pair-items) l.found.items
