-- The boxes so far.
use Rattle.std.proofs.Common.{◌≡◌, ◌++◌, map, take}
use Rattle.cif_drawing.specs.Placements.{placed}
use Rattle.cif_drawing.proofs.expanding.add_placed.Given as goal

abbrev pub invariant-loop-b : goal.invariant-loop-b
invariant-loop-b l = l.boxes.items ≡ l.initial.boxes.items ++ map (placed l.placement) (take l.b-index l.several)
