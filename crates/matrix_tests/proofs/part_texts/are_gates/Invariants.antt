-- The gates so far are of the part.
use Rattle.std.proofs.Common.{All, take}
use Rattle.nor_net.specs.Part.{IsPartGate}
use Rattle.matrix_tests.proofs.part_texts.are_gates.Given as goal

abbrev pub invariant-loop-gate : goal.invariant-loop-gate
invariant-loop-gate l = All (IsPartGate l.count) (take l.gate-index l.gates)
