use Rattle.std.proofs.Common.{◌≡◌, map, take}
use Rattle.light_order.specs.Order.{light_first}
use Rattle.tree_layout.specs.Numbered.{entry_of}
use Rattle.tree_layout.proofs.numbered.entries.Given as goal

abbrev pub invariant-loop-number : goal.invariant-loop-number
invariant-loop-number l = l.entries.items ≡ map (entry_of l.tree) (take l.number (light_first l.tree))
