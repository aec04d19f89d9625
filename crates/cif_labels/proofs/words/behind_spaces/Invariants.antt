-- Spaces stand so far.
use Rattle.std.proofs.Common.{◌≡◌, ◌≤◌, ◌-◌, length, drop}
use Rattle.geom.specs.CifLabels.{label_words}
use Rattle.cif_labels.proofs.words.behind_spaces.Given as goal

abbrev pub invariant-loop-from : goal.invariant-loop-from
invariant-loop-from l = record {
  within : l.from ≤ length l.text;
  same : label_words (drop l.from l.text) ≡ label_words (drop l.fn.at l.text);
}

abbrev pub decreases-loop-from : goal.decreases-loop-from
decreases-loop-from l = length l.text - l.from
