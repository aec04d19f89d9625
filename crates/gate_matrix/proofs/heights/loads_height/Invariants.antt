-- The loads so far.
use Rattle.std.proofs.Common.{◌≡◌, ◌*◌, ◌≤◌, sum_by, take}
use Rattle.gate_matrix.specs.PartRows.{height_of_load}
use Rattle.gate_matrix.proofs.heights.loads_height.Given as goal

abbrev pub invariant-loop-net : goal.invariant-loop-net
invariant-loop-net l = (l.height ≡ sum_by (height_of_load l.part) (take l.net-index l.net-items)) × (l.height ≤ 3 * l.net-index)
