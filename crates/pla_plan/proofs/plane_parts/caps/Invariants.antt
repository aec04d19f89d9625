-- The tiles so far.
use Rattle.std.proofs.Common.{◌≡◌, map}
use Rattle.std.specs.List.{range_with_len}
use Rattle.pla_plan.specs.Planes.{cap}
use Rattle.pla_plan.proofs.plane_parts.caps.Given as goal

abbrev pub invariant-loop-col : goal.invariant-loop-col
invariant-loop-col l = l.caps.items ≡ map (cap l.planes) (range_with_len 0 l.col)
