use Rattle.std.proofs.Common.{◌≡◌, take, length}
use Rattle.nmos_model.specs.Rasters.{ShowsBoxes}
use Rattle.nmos_model.proofs.raster.paint_boxes.Given as goal

abbrev pub invariant-loop-b : goal.invariant-loop-b
invariant-loop-b l = record {
  size : length l.squares ≡ length l.fn.squares;
  shows : ShowsBoxes l.frame (take l.b-index l.boxes) l.squares;
}
