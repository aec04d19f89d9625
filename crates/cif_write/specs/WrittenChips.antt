-- What the text of a chip draws.
use Rattle.std.specs.Prelude.{◌≡◌, ◌<◌, ◌^◌, true, ℤ, pos, neg_ℤ, ◌+ℤ◌, ◌≤ℤ◌, List, [], map, flat_map, slice_get, length, Option, Some, None}
use Rattle.geom.specs.declared.chip.Call.{Call}
use Rattle.geom.specs.declared.chip.Label.{Label}
use Rattle.geom.specs.Squares.{BoxShape, IsBox}
use Rattle.geom.specs.Rows.{Among}
use Rattle.geom.specs.Chips.{ChipShape}
use Rattle.geom.specs.CifLabels.{IsPadName, bears_labels}
use Rattle.geom.specs.CifRefusals.{DrawsCif}
use Rattle.cif_write.specs.ChipText.{chip_text}

-- a coordinate within 2^32 λ of the origin
pub record IsWritableEdge (v : ℤ) : Type 0 where
  pub from : neg_ℤ (pos (2 ^ 32)) ≤ℤ v
  pub to : v ≤ℤ pos (2 ^ 32)

-- a box with edges within 2^32 λ of the origin
pub record IsWritableBox (b : BoxShape) : Type 0 where
  pub box : IsBox b
  pub left : IsWritableEdge b.x1
  pub bottom : IsWritableEdge b.y1
  pub right : IsWritableEdge b.x2
  pub top : IsWritableEdge b.y2

-- a call of a kind there is, within reach
pub record IsWritableCall (kinds : List (List BoxShape)) (call : Call) : Type 0 where
  pub boxes : List BoxShape
  pub kind : slice_get kinds call.kind ≡ Some boxes
  pub x : IsWritableEdge call.x
  pub y : IsWritableEdge call.y

-- a label on diffusion, poly or metal, within reach
pub record IsWritableLabel (label : Label) : Type 0 where
  pub pad : IsPadName label.pad
  pub layer : bears_labels label.layer ≡ true
  pub x : IsWritableEdge label.x
  pub y : IsWritableEdge label.y

-- the chips whose text draws them
pub record IsWritable (chip : ChipShape) : Type 0 where
  pub few : length chip.kinds < 2 ^ 32
  pub kinds : (boxes : List BoxShape) (b : BoxShape) → Among chip.kinds boxes → Among boxes b → IsWritableBox b
  pub calls : (call : Call) → Among chip.calls call → IsWritableCall chip.kinds call
  pub labels : (label : Label) → Among chip.labels label → IsWritableLabel label

-- the box, moved
abbrev pub shifted : ℤ → ℤ → BoxShape → BoxShape
shifted dx dy b =
    record { layer = b.layer; x1 = b.x1 +ℤ dx; y1 = b.y1 +ℤ dy; x2 = b.x2 +ℤ dx; y2 = b.y2 +ℤ dy }

-- a kind, if there is one, at the place of a call
abbrev pub kind_at : Call → Option (List BoxShape) → List BoxShape
kind_at call None = []
kind_at call (Some boxes) = map (shifted call.x call.y) boxes

-- the kinds of a chip at its calls
abbrev pub chip_boxes : ChipShape → List BoxShape
chip_boxes chip = flat_map (λ call. kind_at call (slice_get chip.kinds call.kind)) chip.calls

-- The text of a chip within reach draws its kinds at its calls, with its labels.
pub record ChipTextsDraw : Type 0 where
  pub drawn : (chip : ChipShape) → IsWritable chip → DrawsCif (chip_text chip) (chip_boxes chip) chip.labels
