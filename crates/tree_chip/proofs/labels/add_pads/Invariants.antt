use Rattle.std.proofs.Common.{◌≡◌, ◌++◌, map}
use Rattle.std.specs.List.{range_with_len}
use Rattle.cell_network.specs.Whole.{pad_at}
use Rattle.tree_chip.proofs.labels.add_pads.Given as goal

abbrev pub invariant-loop-i : goal.invariant-loop-i
invariant-loop-i l = l.pads.items ≡ l.initial.pads.items ++ map (pad_at l.role l.net l.names) (range_with_len 0 l.i)
