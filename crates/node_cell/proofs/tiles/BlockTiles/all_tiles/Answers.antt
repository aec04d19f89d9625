-- One row more, until there are all.
use Rattle.std.proofs.Common.{◌≡◌, ℕ, map, ap, ◌∙◌, arith}
use Rattle.std.specs.Prelude.{flat_map}
use Rattle.std.specs.List.{range_with_len}
use Rattle.node_cell.specs.Blocks.{block_side}
use Rattle.node_cell.specs.Made.{shape_plan}
use Rattle.node_cell.proofs.Tilings.{rows_more}
use Rattle.node_cell.proofs.tiles.BlockTiles.all_tiles.Goals as goal

pub loop-row-preserved : goal.loop-row-preserved
loop-row-preserved c =
    let block = c.args.self.now in
    rows_more (λ (row : ℕ). map ((shape_plan block).tile row) (range_with_len 0 (block_side block.counts))) c.loop-row.tiles.items c.add_row.new.tiles.items
    c.loop-row.row c.loop-row.invariant c.in_ok-add_row.ensures

pub returns : goal.returns
returns c =
    let block = c.args.self.now in
    let last : c.loop-row.row ≡ block_side block.counts = omega (arith, c.side-row-end.ensures.side) in
    c.loop-row.invariant
    ∙ ap (λ (n : ℕ). flat_map (λ row. map ((shape_plan block).tile row) (range_with_len 0 (block_side block.counts))) (range_with_len 0 n)) last
