-- The rows of the gates so far, and of those behind them.
use Rattle.std.proofs.Common.{◌≡◌, ◌++◌, [], take, drop}
use Rattle.gate_matrix.specs.OpenLoads.{AreOpen}
use Rattle.gate_matrix.specs.PartRows.{rows_of_gates}
use Rattle.gate_matrix.proofs.part_rows.add_gates.Given as goal

abbrev pub invariant-loop-gate : goal.invariant-loop-gate
invariant-loop-gate l =
    (l.list.items ++ rows_of_gates l.part (take l.gate-index l.gate-items) (drop l.gate-index l.gate-items)
    ≡ l.fn.list.items ++ rows_of_gates l.part [] l.gate-items)
    × AreOpen l.part (take l.gate-index l.gate-items) l.open_loads
