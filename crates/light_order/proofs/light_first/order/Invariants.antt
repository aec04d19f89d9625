use Rattle.light_order.proofs.Unrolled.{Unrolled, left}
use Rattle.light_order.proofs.light_first.order.Given as goal

abbrev pub invariant-loop-node : goal.invariant-loop-node
invariant-loop-node l = Unrolled l.tree l.order.items l.waiting.items

abbrev pub decreases-loop-node : goal.decreases-loop-node
decreases-loop-node l = left l.tree l.waiting.items
