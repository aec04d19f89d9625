use Rattle.std.proofs.Common.{◌≡◌, length}
use Rattle.switch_sim.proofs.group.clear.Given as goal

abbrev pub invariant-loop : goal.invariant-loop
invariant-loop l = l.group.size ≡ l.fn.group.size

abbrev pub decreases-loop : goal.decreases-loop
decreases-loop l = length l.group.nets
