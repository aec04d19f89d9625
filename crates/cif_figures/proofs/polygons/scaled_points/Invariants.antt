-- Some points are scaled, and the others stand from here on.
use Rattle.std.proofs.Common.{◌≤◌, ◌-◌, List, length}
use Rattle.geom.specs.declared.point.Point.{Point}
use Rattle.cif_codes.specs.Scales.{ratio}
use Rattle.cif_figures.specs.Polygons.{AreClearPoints}
use Rattle.cif_figures.proofs.PolygonPoints.{PointsLeft}
use Rattle.cif_figures.proofs.polygons.scaled_points.Given as goal

abbrev pub invariant-loop-scale : goal.invariant-loop-scale
invariant-loop-scale l = record {
  place : l.from ≤ length l.text;
  left : (points : List Point) (h : AreClearPoints l.text l.fn.at (ratio l.fn.scale) points)
      → PointsLeft l.text l.fn.scale h.stop points l.from l.points.items;
}

abbrev pub decreases-loop-scale : goal.decreases-loop-scale
decreases-loop-scale l = length l.text - l.from
