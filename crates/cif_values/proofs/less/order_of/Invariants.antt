-- The order of the numbers of the digits so far.
use Rattle.cif_values.specs.Orders.{IsOrder}
use Rattle.cif_values.proofs.Ordering.{value_to}
use Rattle.cif_values.proofs.less.order_of.Given as goal

abbrev pub invariant-loop-i : goal.invariant-loop-i
invariant-loop-i l = IsOrder l.order (value_to l.text l.fn.left l.i l.count) (value_to l.text l.fn.right l.i l.count)
