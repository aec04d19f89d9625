-- Bytes of the name stand so far.
use Rattle.std.proofs.Common.{◌≡◌, ◌≤◌, ◌+◌, ◌-◌, length, drop}
use Rattle.std.specs.List.{prefix_len}
use Rattle.cif_kinds.specs.Names.{is_name_byte}
use Rattle.cif_kinds.proofs.layers.behind_name.Given as goal

abbrev pub invariant-loop-at : goal.invariant-loop-at
invariant-loop-at l = record {
  order : l.fn.from ≤ l.at;
  within : l.at ≤ length l.text;
  same : l.at + prefix_len is_name_byte (drop l.at l.text) ≡ l.fn.from + prefix_len is_name_byte (drop l.fn.from l.text);
}

abbrev pub decreases-loop-at : goal.decreases-loop-at
decreases-loop-at l = length l.text - l.at
