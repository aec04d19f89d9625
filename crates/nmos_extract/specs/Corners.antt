-- The first squares of boxes.
use Rattle.geom.specs.declared.point.Point.{Point}
use Rattle.geom.specs.Squares.{BoxShape}

-- the first square of the box
abbrev pub corner : BoxShape → Point
corner b = record { x = b.x1; y = b.y1 }
