-- The labels so far.
use Rattle.std.proofs.Common.{◌≡◌, map, take}
use Rattle.tree_chip.specs.Labels.{label_at}
use Rattle.tree_chip.proofs.labels.labels_of.Given as goal

abbrev pub invariant-loop-pad : goal.invariant-loop-pad
invariant-loop-pad l = l.labels.items ≡ map (label_at l.corner.west l.corner.south) (take l.pad-index l.pads)
