-- The boxes so far are measured.
use Rattle.std.proofs.Common.{List, ◌++◌, map, take}
use Rattle.geom.specs.Squares.{BoxShape}
use Rattle.cif_write.specs.WrittenChips.{shifted}
use Rattle.chip_box.specs.Extents.{IsExtent}
use Rattle.chip_box.proofs.extent.with_boxes.Given as goal

abbrev pub invariant-loop-b : goal.invariant-loop-b
invariant-loop-b l =
    (measured : List BoxShape) → IsExtent measured l.fn.extent
    → IsExtent (measured ++ map (shifted l.call.x l.call.y) (take l.b-index l.boxes)) l.extent
