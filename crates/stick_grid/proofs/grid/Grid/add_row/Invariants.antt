-- The boxes of the tiles so far.
use Rattle.std.proofs.Common.{◌≡◌, ◌++◌}
use Rattle.std.specs.List.{range_with_len, flat_map}
use Rattle.stick_grid.specs.Plans.{plan_of}
use Rattle.stick_grid.specs.PlanBoxes.{boxes_in}
use Rattle.stick_grid.proofs.grid.Grid.add_row.Given as goal

abbrev pub invariant-loop-col : goal.invariant-loop-col
invariant-loop-col l = l.drawn.items ≡ l.fn.drawn.items ++ flat_map (boxes_in (plan_of l.self) l.row) (range_with_len 0 l.col)
