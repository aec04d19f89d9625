use Rattle.std.specs.Prelude.{flat_map}
use Rattle.std.proofs.Common.{◌≡◌, ◌++◌}
use Rattle.std.specs.List.{range_with_len}
use Rattle.cell_network.specs.Whole.{cell_transfers}
use Rattle.cell_network.proofs.whole.whole_transfers.Given as goal

abbrev pub invariant-loop-v : goal.invariant-loop-v
invariant-loop-v l = l.transfers.items ≡ l.initial.transfers.items ++ flat_map (cell_transfers l.counts l.nodes) (range_with_len 0 l.v)
