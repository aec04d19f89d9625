-- The next point, or the first behind the last.
use Rattle.std.proofs.Common.{inl, inr}
use Rattle.cif_shapes.proofs.PolygonSides.{side_at}
use Rattle.cif_shapes.proofs.sides.side.Goals as goal
use Rattle.cif_shapes.proofs.sides.side.Goals.{then-at-points, else-at-points}

pub returns : goal.returns
returns c =
    side_at c.args.points.now c.args.at c.if-at-points.next _ c.requires
    (elim c.if-at-points.branch [
      | then-at-points w ↦ inl (w.next-is, w.if-at-points.true)
      | else-at-points w ↦ inr (w.next-is, w.if-at-points.false)
    ])
