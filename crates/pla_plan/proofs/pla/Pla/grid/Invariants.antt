-- The tiles of the rows so far.
use Rattle.std.proofs.Common.{◌≡◌, map}
use Rattle.std.specs.Prelude.{flat_map}
use Rattle.std.specs.List.{range_with_len}
use Rattle.pla_plan.specs.Planes.{planes_tile}
use Rattle.pla_plan.proofs.pla.Pla.grid.Given as goal

abbrev pub invariant-loop-row : goal.invariant-loop-row
invariant-loop-row l = l.tiles.items ≡ flat_map (λ row. map (planes_tile l.self row) (range_with_len 0 l.self.cols)) (range_with_len 0 l.row)
