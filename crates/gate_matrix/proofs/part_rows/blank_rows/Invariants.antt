-- The blank rows so far.
use Rattle.std.proofs.Common.{◌≡◌, replicate}
use Rattle.gate_matrix.specs.Rows.{blank_row}
use Rattle.gate_matrix.proofs.part_rows.blank_rows.Given as goal

abbrev pub invariant-loop-made : goal.invariant-loop-made
invariant-loop-made l = l.list.items ≡ replicate l.made blank_row
