-- The last nodes stand in their places.
use Rattle.std.proofs.Common.{◌≡◌, ℕ, ◌+◌, ◌-◌, ◌*◌, ◌<◌, Some, drop}
use Rattle.std.specs.Prelude.{slice_get}
use Rattle.std.specs.Option.{option_map_or}
use Rattle.block_grid.specs.declared.kind.BlockKind.{BlockKind}
use Rattle.block_grid.specs.Sheets.{node_kind, node_on}
use Rattle.block_grid.proofs.raster.put_nodes.Given as goal

abbrev pub invariant-loop-put : goal.invariant-loop-put
invariant-loop-put l =
    (r c : ℕ) (k : BlockKind) → c < l.cols → slice_get l.fn.kinds (r * l.cols + c) ≡ Some k
    → slice_get l.kinds (r * l.cols + c) ≡ Some (option_map_or node_kind (node_on (drop (l.count - l.put) l.nodes) r c) k)
