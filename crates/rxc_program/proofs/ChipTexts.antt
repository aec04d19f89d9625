-- The text of a chip is no network text, and what `net`, `pla` and `tree` write is a chip's.
use Rattle.std.proofs.Common.{◌≡◌, ℕ, false, List, [], ◌∷◌, ◌++◌, flat_map, codes, refl, sym, subst}
use Rattle.geom.specs.declared.chip.Call.{Call}
use Rattle.geom.specs.declared.chip.Label.{Label}
use Rattle.geom.specs.Squares.{BoxShape}
use Rattle.geom.specs.Chips.{ChipShape}
use Rattle.cif_write.specs.ChipText.{call_line, chip_text, kinds_lines, label_line}
use Rattle.switch_net.specs.Circuit.{Circuit}
use Rattle.rxc_program.proofs.Chips.{network_chip}
use Rattle.rxc_program.specs.Chips.{IsChip, IsChipBy, begins_network}
use Rattle.rxc_program.specs.Files.{FileKind, FileStandsFor, IsLayoutFile, network_file, pla_file, tree_file}
use Rattle.rxc_program.specs.Telling.{HasFewBoxes, IsReadable}

-- the first byte is that of a kind, of a call, of a label or of the end
lines_begin : (kinds : List (List BoxShape)) (calls : List Call) (labels : List Label)
    → begins_network (kinds_lines 0 kinds ++ flat_map call_line calls ++ flat_map label_line labels ++ codes "E\n") ≡ false
lines_begin (boxes ∷ kinds) calls labels = refl
lines_begin [] (call ∷ calls) labels = refl
lines_begin [] [] (label ∷ labels) = refl
lines_begin [] [] [] = refl

pub chip_begins : (chip : ChipShape) → begins_network (chip_text chip) ≡ false
chip_begins chip = lines_begin chip.kinds chip.calls chip.labels

layout_chip : (file : List ℕ) (circuit : Circuit) → IsLayoutFile file circuit → HasFewBoxes file → IsChip file circuit
layout_chip file circuit is few =
    subst (λ b. IsChipBy b file circuit) (sym is.begins)
    (record { drawn = is.draws; few = few is.draws.boxes is.draws.labels is.draws.draws })

-- a file that is read is a chip's
pub file_chip : (kind : FileKind) (file : List ℕ) (circuit : Circuit) → FileStandsFor kind file circuit → IsReadable kind file → IsChip file circuit
file_chip network_file file circuit stands readable = network_chip file circuit stands
file_chip pla_file file circuit stands readable = layout_chip file circuit stands readable
file_chip tree_file file circuit stands readable = layout_chip file circuit stands readable
