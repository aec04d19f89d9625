-- The boxes of the rows so far.
use Rattle.std.proofs.Common.{◌≡◌}
use Rattle.std.specs.List.{range_with_len, flat_map}
use Rattle.stick_grid.specs.Plans.{plan_of}
use Rattle.stick_grid.specs.PlanBoxes.{boxes_in_row}
use Rattle.stick_grid.proofs.grid.Grid.boxes.Given as goal

abbrev pub invariant-loop-row : goal.invariant-loop-row
invariant-loop-row l = l.drawn.items ≡ flat_map (boxes_in_row (plan_of l.self)) (range_with_len 0 l.row)
