-- The tiles of the lower grid are put behind those of the upper one.
use Rattle.std.proofs.Common.{◌≡◌, ◌+◌, ◌++◌, refl}
use Rattle.stick_grid.proofs.Above.{above_tiling, above_tiles}
use Rattle.stick_grid.proofs.grid.Grid.above.Goals as goal

pub new-requires : goal.new-requires
new-requires c =
    let all : c.extend_from_slice.new.self.items ≡ c.args.self.tiles ++ c.args.below.tiles =
    rw (c.in_ok-extend_from_slice.ensures.items, c.into_tiles-tiles.ensures, c.deref.ensures.value, c.into_tiles.ensures) refl in
    above_tiling c.args.self c.args.below (c.rows.result + c.rows-2.result) c.cols-cols.result c.extend_from_slice.new.self.items
    c.rows.ensures.tiling c.rows-2.ensures.tiling c.requires (rw (c.rows.ensures.number, c.rows-2.ensures.number) refl) c.cols-cols.ensures.number all

pub returns : goal.returns
returns c =
    let all : c.extend_from_slice.new.self.items ≡ c.args.self.tiles ++ c.args.below.tiles =
    rw (c.in_ok-extend_from_slice.ensures.items, c.into_tiles-tiles.ensures, c.deref.ensures.value, c.into_tiles.ensures) refl in
    rw c.new.ensures
    (above_tiles c.args.self c.args.below (c.rows.result + c.rows-2.result) c.cols-cols.result c.extend_from_slice.new.self.items
    c.rows.ensures.tiling c.rows-2.ensures.tiling c.requires (rw (c.rows.ensures.number, c.rows-2.ensures.number) refl) c.cols-cols.ensures.number all)
