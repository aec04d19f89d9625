-- Bytes of the word stand so far.
use Rattle.std.proofs.Common.{◌≡◌, ◌≤◌, ◌+◌, ◌-◌, length, drop}
use Rattle.std.specs.List.{prefix_len}
use Rattle.cif_labels.specs.Words.{is_inside_word}
use Rattle.cif_labels.proofs.words.behind_word.Given as goal

abbrev pub invariant-loop-to : goal.invariant-loop-to
invariant-loop-to l = record {
  order : l.fn.at ≤ l.to;
  within : l.to ≤ length l.text;
  same : l.to + prefix_len is_inside_word (drop l.to l.text) ≡ l.fn.at + prefix_len is_inside_word (drop l.fn.at l.text);
}

abbrev pub decreases-loop-to : goal.decreases-loop-to
decreases-loop-to l = length l.text - l.to
