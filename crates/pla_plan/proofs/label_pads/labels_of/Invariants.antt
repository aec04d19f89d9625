-- The labels so far.
use Rattle.std.proofs.Common.{◌≡◌, map, take}
use Rattle.pla_plan.specs.ArrayNetworks.{pad_label}
use Rattle.pla_plan.proofs.label_pads.labels_of.Given as goal

abbrev pub invariant-loop-pad : goal.invariant-loop-pad
invariant-loop-pad l = l.labels.items ≡ map (pad_label l.at) (take l.pad-index l.pads)
