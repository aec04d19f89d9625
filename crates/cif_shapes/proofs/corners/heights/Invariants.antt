-- The heights of the points so far.
use Rattle.std.proofs.Common.{◌≡◌, take, map}
use Rattle.geom.specs.declared.point.Point.{Point}
use Rattle.cif_shapes.proofs.corners.heights.Given as goal

abbrev pub invariant-loop-p : goal.invariant-loop-p
invariant-loop-p l = l.heights.items ≡ map (λ (p : Point). p.y) (take l.p-index l.points)
