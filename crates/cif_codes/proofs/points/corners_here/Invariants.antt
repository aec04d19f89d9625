-- Some points are read, and the others stand from here on.
use Rattle.std.proofs.Common.{ℕ, ◌≤◌, ◌-◌, List, length, flat_map}
use Rattle.geom.specs.declared.point.Point.{Point}
use Rattle.geom.specs.CifCommands.{point_parts}
use Rattle.cif_values.specs.Parts.{PartsAt}
use Rattle.cif_codes.specs.Scales.{ratio, grid_of}
use Rattle.cif_codes.proofs.PointCodes.{PointsUpTo}
use Rattle.cif_codes.proofs.points.corners_here.Given as goal

abbrev pub invariant-loop-scale : goal.invariant-loop-scale
invariant-loop-scale l = record {
  place : l.from ≤ length l.text;
  few : l.corners.count ≤ l.from;
  up_to : (stop : ℕ) (points : List Point) → PartsAt l.text l.fn.at stop (flat_map point_parts points)
      → PointsUpTo (grid_of l.fn.scale) (ratio l.fn.scale) l.text stop points l.from l.corners;
}

abbrev pub decreases-loop-scale : goal.decreases-loop-scale
decreases-loop-scale l = length l.text - l.from
