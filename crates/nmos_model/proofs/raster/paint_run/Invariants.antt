use Rattle.std.proofs.Common.{◌<◌, ◌≤◌}
use Rattle.nmos_model.specs.Rasters.{Paints}
use Rattle.nmos_model.proofs.raster.paint_run.Given as goal

abbrev pub invariant-loop-at : goal.invariant-loop-at
invariant-loop-at l = Paints (λ k. (l.from ≤ k) × (k < l.at)) l.layer l.fn.squares l.squares
