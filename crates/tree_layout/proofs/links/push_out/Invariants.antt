use Rattle.std.proofs.Common.{◌≡◌, ◌-◌, ◌++◌, flat_map}
use Rattle.std.specs.List.{range_with_len}
use Rattle.tree_layout.specs.Squares.{links_from}
use Rattle.tree_layout.proofs.links.push_out.Given as goal

abbrev pub invariant-loop-number : goal.invariant-loop-number
invariant-loop-number l = l.links.items ≡ l.fn.links.items ++ flat_map (links_from l.entries l.border l.end) (range_with_len l.fn.from (l.number - l.fn.from))
