-- The gates so far.
use Rattle.std.proofs.Common.{◌≡◌, take}
use Rattle.pla_plan.proofs.array_plan.copied_gates.Given as goal

abbrev pub invariant-loop-gate : goal.invariant-loop-gate
invariant-loop-gate l = l.copies.items ≡ take l.gate-index l.gates
