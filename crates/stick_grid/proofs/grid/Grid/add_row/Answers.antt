-- The boxes of one tile more.
use Rattle.std.proofs.Common.{◌≡◌, ◌++◌, ap, ◌∙◌}
use Rattle.stick_grid.specs.Plans.{plan_of}
use Rattle.stick_grid.specs.PlanBoxes.{boxes_in}
use Rattle.stick_grid.proofs.Moves.{flat_next}
use Rattle.stick_grid.proofs.grid.Grid.add_row.Goals as goal

pub loop-col-preserved : goal.loop-col-preserved
loop-col-preserved c =
    let f = boxes_in (plan_of c.args.self.now) c.args.row in
    let col = c.loop-col.col in
    let step : c.add_tile.new.drawn.items ≡ c.loop-col.drawn.items ++ f col = rw (← c.tile_at.ensures, ← c.rows.ensures.number) c.in_ok-add_tile.ensures in
    step ∙ ap (λ l. l ++ f col) c.loop-col.invariant ∙ flat_next f c.args.drawn.now.items col
