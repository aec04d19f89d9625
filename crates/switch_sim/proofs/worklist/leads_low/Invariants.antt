use Rattle.std.proofs.Common.{◌≡◌, length}
use Rattle.switch_sim.proofs.worklist.leads_low.Given as goal

abbrev pub invariant-loop-behind : goal.invariant-loop-behind
invariant-loop-behind l = length l.watch ≡ length l.fn.watch

abbrev pub decreases-loop-behind : goal.decreases-loop-behind
decreases-loop-behind l = l.behind
