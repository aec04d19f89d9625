-- Some points are read, and the others stand from here on.
use Rattle.std.proofs.Common.{ℕ, ◌≤◌, ◌-◌, pos, List, length, flat_map}
use Rattle.geom.specs.declared.point.Point.{Point}
use Rattle.geom.specs.CifCommands.{point_parts}
use Rattle.cif_values.specs.Parts.{PartsAt}
use Rattle.cif_values.specs.Numbers.{StandsFor}
use Rattle.cif_codes.specs.Scales.{ratio, grid_of}
use Rattle.cif_codes.specs.Bends.{IsNearLast}
use Rattle.cif_codes.proofs.Bending.{BendsUpTo}
use Rattle.cif_codes.proofs.wires.bends_here.Given as goal

abbrev pub invariant-loop-scale : goal.invariant-loop-scale
invariant-loop-scale l = record {
  place : l.from ≤ length l.text;
  few : l.bends.count ≤ l.from;
  near : IsNearLast l.text l.bends.last;
  up_to : (stop w : ℕ) (points : List Point) → PartsAt l.text l.fn.at stop (flat_map point_parts points) → StandsFor (grid_of l.fn.scale) (pos w) l.fn.width
      → BendsUpTo l.text (grid_of l.fn.scale) (ratio l.fn.scale) w stop points l.from l.bends;
}

abbrev pub decreases-loop-scale : goal.decreases-loop-scale
decreases-loop-scale l = length l.text - l.from
