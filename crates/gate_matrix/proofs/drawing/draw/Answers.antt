-- The tiles are those of the plan, which has a tiling.
use Rattle.std.proofs.Common.{◌≡◌, Result, Ok, subst, sym, ◌∙◌}
use Rattle.stick_grid.specs.Tilings.{IsTiling}
use Rattle.gate_matrix.proofs.DrawnTiles.{drawn, tiling, grid_is}
use Rattle.gate_matrix.proofs.drawing.draw.Goals as goal

pub new-requires : goal.new-requires
new-requires c =
    let part = c.args.part.now in
    let at = c.args.at.now in
    let is = drawn part at c.args.rows c.args.cols c.requires.room c.in_ok-columns.columns.items c.in_ok-list.list.items c.loop-row.row-index
    c.loop-row.tiles.items
    c.in_ok-columns.ensures c.in_ok-list.ensures.rows (rw (← c.deref-row-items.ensures.value) c.loop-row-test.false)
    (rw (← c.deref-row-items.ensures.value) c.loop-row.invariant) in
    subst IsTiling (sym is)
    (tiling part at c.args.rows c.args.cols c.requires.room c.same_tiles_agree.ensures.tilings c.matrices_are_plans.ensures c.requires.few_rows
    c.requires.few_cols)

inside : {A E : Type 0} (a b : A) → ◌≡◌ {A = Result A E} (Ok a) (Ok b) → a ≡ b
inside a b e = cc

pub returns-clause-tiles : goal.returns-clause-tiles
returns-clause-tiles c =
    let part = c.args.part.now in
    let at = c.args.at.now in
    let is = drawn part at c.args.rows c.args.cols c.requires.room c.in_ok-columns.columns.items c.in_ok-list.list.items c.loop-row.row-index
    c.loop-row.tiles.items
    c.in_ok-columns.ensures c.in_ok-list.ensures.rows (rw (← c.deref-row-items.ensures.value) c.loop-row-test.false)
    (rw (← c.deref-row-items.ensures.value) c.loop-row.invariant) in
    inside c.in_ok-new.field-0 (record { rows = c.args.rows; cols = c.args.cols; tiles = c.loop-row.tiles.items }) (sym c.in_ok-new.was
    ∙ c.new.ensures) ∙ is

pub returns-clause-network : goal.returns-clause-network
returns-clause-network c =
    let part = c.args.part.now in
    let at = c.args.at.now in
    grid_is part at c.args.rows c.args.cols c.requires.room c.same_tiles_agree.ensures.tilings c.same_tiles_agree.ensures.modules
    c.requires.few_rows c.requires.few_cols (c.parts_are_modules.ensures part at c.args.rows c.args.cols c.in_ok-list.ensures.part c.requires.room)
    c.in_ok-new.field-0 (returns-clause-tiles c)
