-- The columns are as they should be where those that are left are.
use Rattle.std.proofs.Common.{◌≤◌, ◌+◌, ◌^◌, drop}
use Rattle.gate_matrix.specs.Columns.{AreWiresFrom, AreWires}
use Rattle.matrix_tests.proofs.part_texts.are_wires.Given as goal

abbrev pub invariant-loop-col : goal.invariant-loop-col
invariant-loop-col l = (AreWiresFrom l.first (drop l.col-index l.at) l.cols → AreWires l.at l.cols) × (l.first ≤ 2 ^ 20 + 2)
