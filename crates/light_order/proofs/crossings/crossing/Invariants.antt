use Rattle.std.proofs.Common.{◌≡◌, ◌≤◌, ◌*◌}
use Rattle.light_order.specs.Crossings.{crosses}
use Rattle.light_order.proofs.Uses.{upto}
use Rattle.light_order.proofs.Counted.{counted}
use Rattle.light_order.proofs.crossings.crossing.Given as goal

abbrev pub invariant-loop-parent : goal.invariant-loop-parent
invariant-loop-parent l =
    (l.count ≤ 2 * l.parent) × (l.count ≡ upto (counted l.tree (crosses l.order l.from l.to l.place)) l.parent)
