-- What a command draws, and how it is kept.
use Rattle.std.specs.Prelude.{pos, ℕ, ℤ, List, [], ◌∷◌, Option, Some, None}
use Rattle.rx_text.specs.declared.place.Place.{Place}
use Rattle.rx_text.specs.declared.place.Place.TheVariants.{Text}
use Rattle.geom.specs.declared.orient.Orient.{Orient}
use Rattle.geom.specs.Squares.{BoxShape}
use Rattle.cif_drawing.specs.declared.kept.Call.{Call}
use Rattle.cif_drawing.specs.declared.kept.Rare.{Rare}
use Rattle.cif_drawing.specs.declared.kept.Rare.TheVariants as rare
use Rattle.cif_drawing.specs.declared.kept.Kept.{Kept}
use Rattle.cif_drawing.specs.declared.kept.Kept.TheVariants.{Still, Moved, Single, Other}

-- Boxes, or a symbol somewhere.
pub data InkShape : Type 0 where
  Drawn : List BoxShape → InkShape
  Called : Call → InkShape

-- A command outside definitions: its place, and what it draws.
pub record StrokeShape : Type 0 where
  pub place : Place
  pub ink : InkShape

-- the symbol, turned and then moved
abbrev pub call_by : ℕ → Orient → ℤ → ℤ → Call
call_by symbol turn x y = record { symbol = symbol; placement = record { turn = turn; by = record { x = x; y = y } } }

-- what is kept of a command
abbrev pub rare_ink : Rare → InkShape
rare_ink (rare.Several boxes) = Drawn boxes.items
rare_ink (rare.Called call) = Called call

abbrev pub kept_ink : Kept → InkShape
kept_ink (Still turn symbol line column) = Called (call_by symbol turn (pos 0) (pos 0))
kept_ink (Moved turn column to) = Called (call_by to.value.symbol turn to.value.x to.value.y)
kept_ink (Single column at) = Drawn (at.value.one ∷ [])
kept_ink (Other placed) = rare_ink placed.value.ink

-- its place
abbrev pub kept_place : Kept → Place
kept_place (Still turn symbol line column) = Text line column
kept_place (Moved turn column to) = Text to.value.line column
kept_place (Single column at) = Text at.value.line column
kept_place (Other placed) = placed.value.place

-- the call
abbrev pub call_in : InkShape → Option Call
call_in (Drawn boxes) = None
call_in (Called call) = Some call

-- the boxes, none of a call
abbrev pub boxes_in : InkShape → List BoxShape
boxes_in (Drawn boxes) = boxes
boxes_in (Called call) = []
