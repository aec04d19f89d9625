use Rattle.std.proofs.Common.{◌≡◌, take, [], IfSome, IfNone}
use Rattle.geom.specs.Rows.{Among}
use Rattle.geom.specs.Squares.{BoxShape, IsBox}
use Rattle.nmos_model.specs.Extents.{IsExtent}
use Rattle.nmos_model.proofs.frame.least_extent.Given as goal

abbrev pub invariant-loop-b : goal.invariant-loop-b
invariant-loop-b l = record {
  some : IfSome l.extent (IsExtent (take l.b-index l.boxes));
  valid : (b : BoxShape) → Among (take l.b-index l.boxes) b → IsBox b;
  none : IfNone l.extent (take l.b-index l.boxes ≡ []);
}
