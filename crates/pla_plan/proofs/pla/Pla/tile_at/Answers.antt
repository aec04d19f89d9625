-- The tile is that of the matrix, or of the row between.
use Rattle.std.proofs.Common.{◌≡◌, ℕ, ◌+◌, ◌-◌, length, get_or, sym, ap, ◌∙◌, arith}
use Rattle.std.proofs.lemmas.List.FromFn.{length-map-range_with_len, get_or-map-range_with_len}
use Rattle.micro_tiles.specs.Basics.{number_named}
use Rattle.gate_matrix.specs.Cells.{Matrix, matrix_tile}
use Rattle.pla_plan.specs.Planes.{PlaneTables, plane_rows, cap, lower_matrix, planes_tile}
use Rattle.pla_plan.proofs.PlaneTiles.{between, in_part}
use Rattle.pla_plan.proofs.pla.Pla.tile_at.Goals as goal

pub index-requires : goal.index-requires
index-requires c =
    let planes = c.self.inside.planes in
    let long = ap length c.self.invariant.caps_are ∙ length-map-range_with_len (cap planes) 0 planes.cols in
    let same = ap (λ (p : PlaneTables). p.cols) c.self.view_is in
    omega (arith, c.self.inside.caps.ok.0)

pub tile-requires-else-row-height-2-clause-is_row : goal.tile-requires-else-row-height-2-clause-is_row
tile-requires-else-row-height-2-clause-is_row c =
    let planes = c.self.inside.planes in
    let array = c.plane_rows-height.ensures.array in
    let height = planes.rows - (plane_rows planes + 1) in
    let long = ap (λ (m : Matrix). length m.rows) c.self.invariant.part_is
    ∙ c.parts_fill_rows.ensures planes.part planes.at height planes.cols array.part_fits in
    let same = ap (λ (p : PlaneTables). p.rows) c.self.view_is in
    let beyond = c.if-row-height-2.false in
    omega (arith, c.plane_rows-height.ensures.number)

pub returns-then-row-height-2 : goal.returns-then-row-height-2
returns-then-row-height-2 c =
    let planes = c.self.inside.planes in
    let col = c.args.col in
    let cols = ap (λ (p : PlaneTables). p.cols) c.self.view_is in
    let here : 0 + col ≡ col = omega arith in
    let tile : c.index.result.now ≡ cap planes col =
    c.index.ensures ∙ ap (λ l. get_or l col c.index.result.now) c.self.invariant.caps_are
    ∙ get_or-map-range_with_len (cap planes) 0 planes.cols col col c.index.result.now (omega arith) here in
    c.tile.ensures ∙ ap number_named tile
    ∙ sym (between planes c.args.row col (c.if-row-height-2.true ∙ c.plane_rows-height.ensures.number))
    ∙ ap (λ (p : PlaneTables). planes_tile p c.args.row col) c.self.view_is

pub returns-else-row-height-2 : goal.returns-else-row-height-2
returns-else-row-height-2 c =
    let planes = c.self.inside.planes in
    let row = c.args.row in
    let col = c.args.col in
    let height = c.plane_rows-height.ensures.number in
    let e : row - c.plane_rows-height.result - 1 ≡ row - (plane_rows planes + 1) = omega arith in
    let beyond = c.if-row-height-2.false in
    c.tile-else-row-height-2.ensures ∙ ap (λ (m : Matrix). matrix_tile m (row - c.plane_rows-height.result - 1) col) c.self.invariant.part_is
    ∙ ap (λ (r : ℕ). matrix_tile (lower_matrix planes) r col) e
    ∙ sym (in_part planes row col (omega arith))
    ∙ ap (λ (p : PlaneTables). planes_tile p row col) c.self.view_is
