-- The transfers so far are of the part.
use Rattle.std.proofs.Common.{All, take}
use Rattle.nor_net.specs.Part.{IsPartTransfer}
use Rattle.matrix_tests.proofs.part_texts.are_transfers.Given as goal

abbrev pub invariant-loop-transfer : goal.invariant-loop-transfer
invariant-loop-transfer l = All (IsPartTransfer l.count) (take l.transfer-index l.transfers)
