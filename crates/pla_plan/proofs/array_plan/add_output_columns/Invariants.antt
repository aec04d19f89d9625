-- The columns so far.
use Rattle.std.specs.Prelude.{flat_map}
use Rattle.std.proofs.Common.{◌≡◌, ◌++◌}
use Rattle.std.specs.List.{range_with_len}
use Rattle.pla_plan.specs.ArrayOf.{output_columns}
use Rattle.pla_plan.proofs.array_plan.add_output_columns.Given as goal

abbrev pub invariant-loop-y : goal.invariant-loop-y
invariant-loop-y l = l.places.items ≡ l.fn.places.items ++ flat_map (output_columns l.first) (range_with_len 0 l.y)
