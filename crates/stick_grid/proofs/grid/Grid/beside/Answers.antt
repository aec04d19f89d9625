-- Each tile is put to its place in one of the rows of both grids.
use Rattle.std.proofs.Common.{◌≡◌, ◌+◌, ◌*◌, refl, arith}
use Rattle.stick_grid.specs.Joins.{tile_of_two}
use Rattle.stick_grid.proofs.Filled.{fill_none, fill_more}
use Rattle.stick_grid.proofs.Beside.{beside_tiling, beside_tiles}
use Rattle.stick_grid.proofs.grid.Grid.beside.Goals as goal

pub loop-before-init : goal.loop-before-init
loop-before-init c = rw c.new-tiles.ensures.items (fill_none (c.cols.result + c.cols-2.result) (λ row col tile. tile ≡ tile_of_two c.args.self c.args.right row col))

pub loop-before-preserved : goal.loop-before-preserved
loop-before-preserved c =
    let row = c.place_of.result.row in
    let col = c.place_of.result.col in
    let tile : c.tile_of_two.result ≡ tile_of_two c.args.self c.args.right row col = c.tile_of_two.ensures in
    rw c.in_ok-push.ensures.items
    (fill_more (c.cols.result + c.cols-2.result) c.loop-before.before (λ r k t. t ≡ tile_of_two c.args.self c.args.right r k) c.loop-before.tiles.items row col c.tile_of_two.result
    c.place_of.ensures.number c.place_of.ensures.is_col tile c.loop-before.invariant)

pub new-requires : goal.new-requires
new-requires c =
    let west = c.size.ensures.number in
    let east = c.size-2.ensures.number in
    let past = c.loop-before-test.false in
    let bound = c.loop-before.auto.before-end in
    let all : c.loop-before.before ≡ c.args.self.rows * c.args.self.cols + c.args.right.rows * c.args.right.cols = omega arith in
    beside_tiling c.args.self c.args.right c.rows-rows.result (c.cols.result + c.cols-2.result) c.loop-before.before c.loop-before.tiles.items
    c.rows-rows.ensures.tiling c.cols-2.ensures.tiling c.requires c.rows-rows.ensures.number (rw (c.cols.ensures.number, c.cols-2.ensures.number) refl) all c.loop-before.invariant

pub returns : goal.returns
returns c =
    let west = c.size.ensures.number in
    let east = c.size-2.ensures.number in
    let past = c.loop-before-test.false in
    let bound = c.loop-before.auto.before-end in
    let all : c.loop-before.before ≡ c.args.self.rows * c.args.self.cols + c.args.right.rows * c.args.right.cols = omega arith in
    rw c.new.ensures
    (beside_tiles c.args.self c.args.right c.rows-rows.result (c.cols.result + c.cols-2.result) c.loop-before.before c.loop-before.tiles.items
    c.rows-rows.ensures.tiling c.cols-2.ensures.tiling c.requires c.rows-rows.ensures.number (rw (c.cols.ensures.number, c.cols-2.ensures.number) refl) all c.loop-before.invariant)
