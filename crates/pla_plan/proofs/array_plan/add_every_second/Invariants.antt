-- The columns so far.
use Rattle.std.proofs.Common.{◌≡◌, ◌++◌}
use Rattle.pla_plan.specs.ArrayOf.{every_second}
use Rattle.pla_plan.proofs.array_plan.add_every_second.Given as goal

abbrev pub invariant-loop-k : goal.invariant-loop-k
invariant-loop-k l = l.places.items ≡ l.fn.places.items ++ every_second l.first l.k
