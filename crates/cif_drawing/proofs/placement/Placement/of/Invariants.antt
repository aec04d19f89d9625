-- The transformations so far.
use Rattle.std.proofs.Common.{◌≡◌, ◌*◌, ◌^◌, take, fold}
use Rattle.geom.specs.Squares.{BoxShape}
use Rattle.cif_drawing.specs.Placements.{IsOrdered, IsNear, placed, step_box}
use Rattle.cif_drawing.proofs.placement.Placement.of.Given as goal

abbrev pub invariant-loop-step : goal.invariant-loop-step
invariant-loop-step l = record {
  near : IsNear (l.step-index * 2 ^ 40) l.placement.by;
  placed : (b : BoxShape) → IsOrdered b → placed l.placement b ≡ fold step_box b (take l.step-index l.steps);
}
