-- The gates so far, and those behind them.
use Rattle.std.proofs.Common.{◌≡◌, ◌+◌, ◌*◌, ◌≤◌, [], take, drop}
use Rattle.gate_matrix.specs.OpenLoads.{AreOpen}
use Rattle.gate_matrix.specs.PartRows.{height_of_gates}
use Rattle.gate_matrix.proofs.heights.gates_height.Given as goal

abbrev pub invariant-loop-gate : goal.invariant-loop-gate
invariant-loop-gate l =
    (l.height + height_of_gates l.part (take l.gate-index l.gate-items) (drop l.gate-index l.gate-items) ≡ height_of_gates l.part [] l.gate-items)
    × (l.height ≤ 5 * l.gate-index) × AreOpen l.part (take l.gate-index l.gate-items) l.open_loads
