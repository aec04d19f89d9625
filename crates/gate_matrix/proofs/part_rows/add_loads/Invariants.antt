-- The rows of the loads so far.
use Rattle.std.proofs.Common.{◌≡◌, ◌++◌, take}
use Rattle.std.specs.Prelude.{flat_map}
use Rattle.gate_matrix.specs.PartRows.{rows_of_load}
use Rattle.gate_matrix.proofs.part_rows.add_loads.Given as goal

abbrev pub invariant-loop-net : goal.invariant-loop-net
invariant-loop-net l = l.list.items ≡ l.fn.list.items ++ flat_map (rows_of_load l.part) (take l.net-index l.net-items)
