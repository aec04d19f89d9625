-- The CIF text of a chip: a definition for each kind, then calls, labels, and the end. Each line ends in a line feed.
use Rattle.std.specs.Prelude.{ℕ, ◌+◌, Bool, false, not, ◌==◌, ℤ, pos, ◌+ℤ◌, ◌-ℤ◌, ◌*ℤ◌, List, [], ◌∷◌, ◌++◌, flat_map, Option, Some, None, if◌then◌else◌, codes}
use Rattle.std.specs.Fmt.{signed_decimal}
use Rattle.geom.specs.declared.layer.Layer.{Layer}
use Rattle.geom.specs.declared.chip.Call.{Call}
use Rattle.geom.specs.declared.chip.Label.{Label}
use Rattle.geom.specs.Squares.{BoxShape}
use Rattle.geom.specs.Chips.{ChipShape}
use Rattle.geom.specs.CifLabels.{layer_word, label_word}
use Rattle.geom.specs.Merged.{rank}

-- two numbers, between these bytes and those
abbrev pub pair_text : List ℕ → ℤ → ℤ → List ℕ → List ℕ
pair_text before x y behind = before ++ signed_decimal x ++ codes " " ++ signed_decimal y ++ behind

-- `B LENGTH WIDTH X Y;` by the sides and the centre, in halves of λ
abbrev pub box_line : BoxShape → List ℕ
box_line b =
    pair_text (codes "B ") (pos 2 *ℤ (b.x2 -ℤ b.x1)) (pos 2 *ℤ (b.y2 -ℤ b.y1)) (codes " ")
    ++ pair_text [] (b.x1 +ℤ b.x2) (b.y1 +ℤ b.y2) (codes ";\n")

-- It is the layer of the box before.
abbrev pub is_same_layer : Option Layer → Layer → Bool
is_same_layer None layer = false
is_same_layer (Some before) layer = rank before == rank layer

-- `L NAME;` where the layer is not that of the box before
abbrev pub layer_line : Option Layer → Layer → List ℕ
layer_line before layer = if is_same_layer before layer then [] else codes "L " ++ layer_word layer ++ codes ";\n"

-- the lines of boxes behind one of this layer
abbrev pub box_lines : Option Layer → List BoxShape → List ℕ
box_lines before [] = []
box_lines before (b ∷ boxes) = layer_line before b.layer ++ box_line b ++ box_lines (Some b.layer) boxes

-- `DS N 100 1;`, the boxes, `DF;`
abbrev pub kind_lines : ℕ → List BoxShape → List ℕ
kind_lines n boxes = codes "DS " ++ signed_decimal (pos n) ++ codes " 100 1;\n" ++ box_lines None boxes ++ codes "DF;\n"

-- the kinds, of which so many stand before these; they are numbered from 1
abbrev pub kinds_lines : ℕ → List (List BoxShape) → List ℕ
kinds_lines before [] = []
kinds_lines before (boxes ∷ kinds) = kind_lines (before + 1) boxes ++ kinds_lines (before + 1) kinds

-- `C N T X Y;`
abbrev pub call_line : Call → List ℕ
call_line call =
    codes "C " ++ signed_decimal (pos (call.kind + 1)) ++ codes " "
    ++ pair_text (codes "T ") (pos 200 *ℤ call.x) (pos 200 *ℤ call.y) (codes ";\n")

-- `94 NAME X Y LAYER;`
abbrev pub label_line : Label → List ℕ
label_line label =
    codes "94 " ++ label_word label.pad ++ pair_text (codes " ") (pos 200 *ℤ label.x) (pos 200 *ℤ label.y) (codes " ")
    ++ layer_word label.layer ++ codes ";\n"

-- The text of the chip.
abbrev pub chip_text : ChipShape → List ℕ
chip_text chip =
    kinds_lines 0 chip.kinds ++ flat_map call_line chip.calls ++ flat_map label_line chip.labels ++ codes "E\n"
