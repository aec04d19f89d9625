-- The chip of a tree's layout, and its box.
use Rattle.std.specs.Prelude.{◌≢◌, ◌<◌, ◌^◌, [], length, All}
use Rattle.geom.specs.declared.chip.Rect.{Rect}
use Rattle.geom.specs.Chips.{ChipShape, IsBoxOf}
use Rattle.cif_write.specs.ChipText.{chip_text}
use Rattle.cif_write.specs.WrittenChips.{chip_boxes}
use Rattle.chip_box.specs.Extents.{IsMeasured}
use Rattle.rx_lang.specs.Specification.{Specification}
use Rattle.rxc_program.specs.Files.{DrawsBox, IsFileOf, tree_file}

-- The text of the chip is a file that `tree` may write for the specification. The chip can be measured, and its box, whose sides are
-- small, is that of what its text draws.
pub record IsLayoutOf (spec : Specification) (chip : ChipShape) : Type 0 where
  pub file : IsFileOf tree_file spec (chip_text chip)
  pub measured : All (IsMeasured (length chip.kinds)) chip.calls
  pub some : chip_boxes chip ≢ []
  pub drawn : (r : Rect) → IsBoxOf (chip_boxes chip) r → DrawsBox (chip_text chip) r.width r.height
  pub narrow : (r : Rect) → IsBoxOf (chip_boxes chip) r → r.width < 2 ^ 32
  pub low : (r : Rect) → IsBoxOf (chip_boxes chip) r → r.height < 2 ^ 32
