-- A symbol that is called stands before the one that calls it.
use Rattle.std.proofs.Common.{◌≡◌, ◌++◌, map, take}
use Rattle.cif_drawing.specs.Placements.{placed}
use Rattle.cif_drawing.specs.Inks.{closed_symbols, inks_boxes}
use Rattle.cif_drawing.specs.Shapes.{kept_ink}
use Rattle.cif_drawing.proofs.Standing.{ink_rank}
use Rattle.cif_drawing.proofs.expanding.+expand.Given as goal

abbrev pub decreases-expand : goal.decreases-expand
decreases-expand l = ink_rank (kept_ink l.kept.now)

abbrev pub invariant-loop-ink : goal.invariant-loop-ink
invariant-loop-ink l =
    l.boxes.items ≡ l.initial.boxes.items ++ map (placed l.inner) (inks_boxes (closed_symbols l.symbols) (take l.ink-index l.ink-items))
