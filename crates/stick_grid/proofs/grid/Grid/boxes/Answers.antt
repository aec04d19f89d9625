-- The boxes of each row are added in turn.
use Rattle.std.proofs.Common.{◌≡◌, ◌↔◌, ℕ, ◌++◌, [], ap, ◌∙◌, subst, sym, arith}
use Rattle.std.specs.List.{range_with_len, flat_map}
use Rattle.geom.specs.Squares.{Covered}
use Rattle.stick_grid.specs.Plans.{Covers, plan_of}
use Rattle.stick_grid.specs.PlanBoxes.{boxes_in_row, boxes_of_plan}
use Rattle.stick_grid.proofs.Moves.{flat_next, drawn_covers}
use Rattle.stick_grid.proofs.grid.Grid.boxes.Goals as goal

pub loop-row-preserved : goal.loop-row-preserved
loop-row-preserved c =
    let f = boxes_in_row (plan_of c.args.self.now) in
    c.in_ok-add_row.ensures ∙ ap (λ l. l ++ f c.loop-row.row) c.loop-row.invariant ∙ flat_next f [] c.loop-row.row

pub returns-clause-squares : goal.returns-clause-squares
returns-clause-squares c =
    let plan = plan_of c.args.self.now in
    let all : c.loop-row.row ≡ plan.rows = (let n = c.rows-row-end.ensures.number in omega arith) in
    let is : c.loop-row.drawn.items ≡ boxes_of_plan plan = c.loop-row.invariant ∙ ap (λ (n : ℕ). flat_map (boxes_in_row plan) (range_with_len 0 n)) all in
    λ layer x y. subst (λ bs. Covered bs layer x y ↔ Covers plan layer x y) (sym is) (drawn_covers plan layer x y)
