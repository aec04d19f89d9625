-- One tile more.
use Rattle.std.proofs.Common.{◌∙◌}
use Rattle.node_cell.specs.Made.{shape_plan}
use Rattle.node_cell.proofs.Tilings.{tiles_more}
use Rattle.node_cell.proofs.tiles.BlockTiles.add_row.Goals as goal

pub loop-col-preserved : goal.loop-col-preserved
loop-col-preserved c =
    c.in_ok-push.ensures.items
    ∙ tiles_more ((shape_plan c.args.self.now).tile c.args.row) c.args.tiles.now.items c.loop-col.tiles.items c.loop-col.col c.tile_at.result c.loop-col.invariant
    c.tile_at.ensures
