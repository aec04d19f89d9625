-- The tiles of the columns so far.
use Rattle.std.proofs.Common.{◌≡◌, ◌++◌, map}
use Rattle.std.specs.List.{range_with_len}
use Rattle.pla_plan.specs.Planes.{planes_tile}
use Rattle.pla_plan.proofs.pla.Pla.add_row.Given as goal

abbrev pub invariant-loop-col : goal.invariant-loop-col
invariant-loop-col l = l.tiles.items ≡ l.fn.tiles.items ++ map (planes_tile l.self l.row) (range_with_len 0 l.col)
