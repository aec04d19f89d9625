use Rattle.std.proofs.Common.{◌≡◌, length}
use Rattle.nmos_model.specs.Rasters.{IsAmong, Paints}
use Rattle.nmos_model.proofs.raster.paint.Given as goal

abbrev pub invariant-loop-row : goal.invariant-loop-row
invariant-loop-row l = record {
  size : length l.squares ≡ length l.fn.squares;
  painted : Paints (IsAmong l.width l.columns (record { from = l.fn.rows.from; to = l.row })) l.layer l.fn.squares l.squares;
}
