-- Polygons whose sides lie along the axes.
use Rattle.std.specs.Prelude.{◌≡◌, true, List}
use Rattle.geom.specs.declared.point.Point.{Point}
use Rattle.geom.specs.Turns.{IsReachable}
use Rattle.geom.specs.Rows.{Among}
use Rattle.geom.specs.CifShapes.{is_rectilinear}

-- Each side lies along an axis, and each point, in λ, is within 2^40 of the origin.
pub record IsPolygon (points : List Point) : Type 0 where
  pub rectilinear : is_rectilinear points ≡ true
  pub across : (p : Point) → Among points p → IsReachable p.x
  pub upward : (p : Point) → Among points p → IsReachable p.y
