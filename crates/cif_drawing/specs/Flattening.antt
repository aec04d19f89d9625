-- How the flattening of a drawing fails.
use Rattle.std.specs.Prelude.{⊤, ◌≡◌, ℕ, ◌+◌, ◌<◌, ◌≤◌, true, false, List, length}
use Rattle.std.specs.List.{list_all}
use Rattle.geom.specs.declared.cif_code.CifCode.TheVariants.{C8, C13}
use Rattle.geom.specs.CifDrawings.{CifStroke}
use Rattle.geom.specs.CifRefusals.{FlatRefusal}
use Rattle.cif_drawing.specs.declared.flattening.FlattenFault.{FlattenFault}
use Rattle.cif_drawing.specs.declared.flattening.FlattenFault.TheVariants.{Fault, NoMemory}
use Rattle.cif_drawing.specs.Measures.{is_box}

-- A fault names the first command outside definitions at which a code stands; want of memory may come anywhere.
abbrev pub IsFlattenFault : List CifStroke → FlattenFault → Type 0
IsFlattenFault strokes (Fault code place) = FlatRefusal strokes code place
IsFlattenFault strokes NoMemory = ⊤

-- The stroke draws so many boxes, all within reach, and with those before it no more than may be.
pub record IsCountOf (before : ℕ) (stroke : CifStroke) (count : ℕ) : Type 0 where
  pub count_is : count ≡ length stroke.boxes
  pub few : before + count ≤ 8000000
  pub within : list_all is_box stroke.boxes ≡ true

-- A code stands at the stroke, behind so many boxes.
abbrev pub IsFaultOf : ℕ → CifStroke → FlattenFault → Type 0
IsFaultOf before stroke (Fault C8 place) = (place ≡ stroke.place) × (list_all is_box stroke.boxes ≡ false)
IsFaultOf before stroke (Fault C13 place) =
    (place ≡ stroke.place) × (8000000 < before + length stroke.boxes) × (list_all is_box stroke.boxes ≡ true)
IsFaultOf before stroke other = ⊥
