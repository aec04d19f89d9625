-- The rows of the transfers so far.
use Rattle.std.proofs.Common.{◌≡◌, ◌++◌, take}
use Rattle.std.specs.Prelude.{flat_map}
use Rattle.gate_matrix.specs.PartRows.{rows_of_transfer}
use Rattle.gate_matrix.proofs.part_rows.add_transfers.Given as goal

abbrev pub invariant-loop-transfer : goal.invariant-loop-transfer
invariant-loop-transfer l = l.list.items ≡ l.fn.list.items ++ flat_map (rows_of_transfer l.part) (take l.transfer-index l.transfer-items)
