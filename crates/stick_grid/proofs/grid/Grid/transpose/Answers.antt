-- Each tile is put to its place in the mirror image.
use Rattle.std.proofs.Common.{arith}
use Rattle.stick_grid.proofs.Filled.{fill_none, fill_more}
use Rattle.stick_grid.proofs.Turned.{Turned, turned_tiling, turned_tiles}
use Rattle.stick_grid.proofs.grid.Grid.transpose.Goals as goal

pub loop-before-init : goal.loop-before-init
loop-before-init c = rw c.new-tiles.ensures.items (fill_none c.rows-cols.result (Turned c.args.self.now))

pub loop-before-preserved : goal.loop-before-preserved
loop-before-preserved c =
    let turned : Turned c.args.self.now c.place_of-at.result.row c.place_of-at.result.col c.transposed.result = rw (← c.tile_at.ensures) (c.transposed.ensures.number, c.transposed.ensures.known, c.transposed.ensures.ports) in
    rw c.in_ok-push.ensures.items
    (fill_more c.rows-cols.result c.loop-before.before (Turned c.args.self.now) c.loop-before.tiles.items c.place_of-at.result.row c.place_of-at.result.col c.transposed.result
    c.place_of-at.ensures.number c.place_of-at.ensures.is_col turned c.loop-before.invariant)

pub new-requires : goal.new-requires
new-requires c =
    let size = c.size-before-end.ensures.number in
    turned_tiling c.args.self.now c.cols-rows.result c.rows-cols.result c.loop-before.before c.loop-before.tiles.items c.cols-rows.ensures.tiling
    c.cols-rows.ensures.number c.rows-cols.ensures.number (omega arith) c.loop-before.invariant

pub returns : goal.returns
returns c =
    let size = c.size-before-end.ensures.number in
    rw c.new.ensures
    (turned_tiles c.args.self.now c.cols-rows.result c.rows-cols.result c.loop-before.before c.loop-before.tiles.items c.cols-rows.ensures.tiling
    c.cols-rows.ensures.number c.rows-cols.ensures.number (omega arith) c.loop-before.invariant)
