-- Some segments are drawn, and the others stand from here on.
use Rattle.std.proofs.Common.{ℕ, ◌≤◌, ◌-◌, List, length}
use Rattle.geom.specs.declared.point.Point.{Point}
use Rattle.cif_codes.specs.Bends.{IsNearBend}
use Rattle.cif_codes.specs.Scales.{ratio}
use Rattle.cif_figures.specs.Wires.{IsClearWire}
use Rattle.cif_figures.proofs.WirePoints.{WireLeft, wire_boxes}
use Rattle.cif_figures.proofs.wires.boxes_of.Given as goal

abbrev pub invariant-loop-scale : goal.invariant-loop-scale
invariant-loop-scale l = record {
  place : l.from ≤ length l.text;
  near : IsNearBend l.text l.last;
  up_to : (w : ℕ) (points : List Point) → (h : IsClearWire l.text l.fn.first (ratio l.fn.scale) w points)
      → WireLeft l.text l.fn.scale l.fn.layer w h.stop (wire_boxes l.fn.scale l.fn.layer w points) l.from l.last l.boxes.items;
}

abbrev pub decreases-loop-scale : goal.decreases-loop-scale
decreases-loop-scale l = length l.text - l.from
