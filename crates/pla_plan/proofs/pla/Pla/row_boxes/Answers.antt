-- The tiles of the row are a grid, whose boxes are merged.
use Rattle.std.proofs.Common.{◌≡◌, ◌++◌, Result, Ok, map, sym, ap, ◌∙◌}
use Rattle.std.specs.List.{range_with_len}
use Rattle.pla_plan.specs.Planes.{planes_tile}
use Rattle.pla_plan.proofs.RowTilings.{row_is, row_tiling, row_drawn}
use Rattle.pla_plan.proofs.pla.Pla.row_boxes.Goals as goal

pub new-requires : goal.new-requires
new-requires c =
    let planes = c.args.self.now in
    let array = c.cols.ensures.array in
    row_tiling planes array c.args.row c.requires c.same_tiles_agree.ensures.tilings c.planes_are_plans.ensures c.windows_keep_plans.ensures
    (record { rows = 1; cols = c.cols.result; tiles = c.add_row.new.tiles.items })
    (row_is planes array c.args.row c.requires c.same_tiles_agree.ensures.tilings c.planes_are_plans.ensures c.windows_keep_plans.ensures
    c.cols.result c.add_row.new.tiles.items c.cols.ensures.number
    (c.in_ok-add_row.ensures ∙ ap (λ l. l ++ map (planes_tile planes c.args.row) (range_with_len 0 planes.cols)) c.new-tiles.ensures.items))

inside : {A E : Type 0} (a b : A) → ◌≡◌ {A = Result A E} (Ok a) (Ok b) → a ≡ b
inside a b e = cc

pub returns : goal.returns
returns c =
    let planes = c.args.self.now in
    let array = c.cols.ensures.array in
    row_drawn planes array c.args.row c.requires c.same_tiles_agree.ensures.tilings c.planes_are_plans.ensures c.windows_keep_plans.ensures
    c.same_tiles_agree.ensures.plans c.in_ok-grid.grid c.in_ok-boxes.boxes.items c.in_ok-merged.merged.items
    (inside c.in_ok-grid.grid (record { rows = 1; cols = c.cols.result; tiles = c.add_row.new.tiles.items }) (sym c.in_ok-grid.was ∙ c.new.ensures)
    ∙ row_is planes array c.args.row c.requires c.same_tiles_agree.ensures.tilings c.planes_are_plans.ensures c.windows_keep_plans.ensures
    c.cols.result c.add_row.new.tiles.items c.cols.ensures.number
    (c.in_ok-add_row.ensures ∙ ap (λ l. l ++ map (planes_tile planes c.args.row) (range_with_len 0 planes.cols)) c.new-tiles.ensures.items))
    c.in_ok-boxes.ensures.squares (rw c.deref.ensures.value at c.in_ok-merged.ensures)
