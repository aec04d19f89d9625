-- The tiles are those of the plan, which has a tiling.
use Rattle.std.proofs.Common.{◌≡◌, ℕ, Result, Ok, map, subst, sym, ◌∙◌, arith}
use Rattle.std.specs.List.{range_with_len}
use Rattle.stick_grid.specs.Tilings.{IsTiling}
use Rattle.pla_plan.specs.Planes.{planes_tile}
use Rattle.pla_plan.proofs.DrawnPlanes.{rows_more, drawn, tiling}
use Rattle.pla_plan.proofs.pla.Pla.grid.Goals as goal

pub loop-row-preserved : goal.loop-row-preserved
loop-row-preserved c =
    rows_more (λ (row : ℕ). map (planes_tile c.args.self.now row) (range_with_len 0 c.args.self.now.cols)) c.loop-row.tiles.items c.add_row.new.tiles.items
    c.loop-row.row c.loop-row.invariant c.in_ok-add_row.ensures

pub new-requires : goal.new-requires
new-requires c =
    let planes = c.args.self.now in
    let array = c.rows.ensures.array in
    let last : c.loop-row.row ≡ planes.rows = omega (arith, c.rows-row-end.ensures.number) in
    let is = drawn planes array c.rows.result c.cols.result c.loop-row.row c.loop-row.tiles.items c.rows.ensures.number c.cols.ensures.number last
    c.loop-row.invariant in
    subst IsTiling (sym is) (tiling planes array c.same_tiles_agree.ensures.tilings c.planes_are_plans.ensures)

inside : {A E : Type 0} (a b : A) → ◌≡◌ {A = Result A E} (Ok a) (Ok b) → a ≡ b
inside a b e = cc

pub returns : goal.returns
returns c =
    let planes = c.args.self.now in
    let array = c.rows.ensures.array in
    let last : c.loop-row.row ≡ planes.rows = omega (arith, c.rows-row-end.ensures.number) in
    let is = drawn planes array c.rows.result c.cols.result c.loop-row.row c.loop-row.tiles.items c.rows.ensures.number c.cols.ensures.number last
    c.loop-row.invariant in
    inside c.in_ok-new.field-0 (record { rows = c.rows.result; cols = c.cols.result; tiles = c.loop-row.tiles.items })
    (sym c.in_ok-new.was ∙ c.new.ensures) ∙ is
