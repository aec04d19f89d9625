-- The tiles of the rows so far.
use Rattle.std.proofs.Common.{◌≡◌, map}
use Rattle.std.specs.Prelude.{flat_map}
use Rattle.std.specs.List.{range_with_len}
use Rattle.node_cell.specs.Blocks.{block_side}
use Rattle.node_cell.specs.Made.{shape_plan}
use Rattle.node_cell.proofs.tiles.BlockTiles.all_tiles.Given as goal

abbrev pub invariant-loop-row : goal.invariant-loop-row
invariant-loop-row l =
    l.tiles.items ≡ flat_map (λ row. map ((shape_plan l.self).tile row) (range_with_len 0 (block_side l.self.counts))) (range_with_len 0 l.row)
