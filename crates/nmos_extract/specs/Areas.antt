-- The squares of boxes, and the lines of squares beside them, as rectangles.
use Rattle.std.specs.Prelude.{pos, ◌+ℤ◌, ◌-ℤ◌}
use Rattle.geom.specs.Squares.{BoxShape}
use Rattle.canonical_boxes.specs.declared.holding.Area.{Area}

-- the squares of the box
abbrev pub area_of : BoxShape → Area
area_of b = record { x1 = b.x1; y1 = b.y1; x2 = b.x2; y2 = b.y2 }

-- the lines of squares next to the box, as long as its sides
abbrev pub above : BoxShape → Area
above b = record { x1 = b.x1; y1 = b.y2; x2 = b.x2; y2 = b.y2 +ℤ pos 1 }

abbrev pub below : BoxShape → Area
below b = record { x1 = b.x1; y1 = b.y1 -ℤ pos 1; x2 = b.x2; y2 = b.y1 }

abbrev pub left_of : BoxShape → Area
left_of b = record { x1 = b.x1 -ℤ pos 1; y1 = b.y1; x2 = b.x1; y2 = b.y2 }

abbrev pub right_of : BoxShape → Area
right_of b = record { x1 = b.x2; y1 = b.y1; x2 = b.x2 +ℤ pos 1; y2 = b.y2 }
