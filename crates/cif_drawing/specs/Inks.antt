-- What stands in a drawing, and the boxes that it draws.
use Rattle.std.specs.Prelude.{⊤, ◌≢◌, ℕ, ◌+◌, ◌^◌, ◌<◌, ◌≤◌, List, [], ◌∷◌, ◌++◌, length, map, fold, flat_map, slice_index_or}
use Rattle.geom.specs.declared.chip.Label.{Label}
use Rattle.geom.specs.Squares.{BoxShape}
use Rattle.geom.specs.Rows.{Among}
use Rattle.geom.specs.CifDrawings.{CifSymbol, CifStroke, CifDrawing}
use Rattle.cif_drawing.specs.declared.kept.Call.{Call}
use Rattle.cif_drawing.specs.Shapes.{InkShape, StrokeShape, Drawn, Called}
use Rattle.cif_drawing.specs.declared.ink.Symbol.{Symbol}
use Rattle.cif_drawing.specs.Placements.{placed, IsNear}
use Rattle.cif_drawing.specs.Measures.{IsMeasure}

-- a definition that draws nothing
abbrev pub no_symbol : CifSymbol
no_symbol = record { number = 0; boxes = []; chain = 0 }

-- the definition that was closed as this one from 0 on
abbrev pub symbol_at : List CifSymbol → ℕ → CifSymbol
symbol_at closed k = slice_index_or closed k no_symbol

-- the boxes that it draws, behind these definitions, which are in the order of the text
abbrev pub ink_boxes : List CifSymbol → InkShape → List BoxShape
ink_boxes closed (Drawn boxes) = boxes
ink_boxes closed (Called call) = map (placed call.placement) (symbol_at closed call.symbol).boxes

-- how many calls it makes, one within another
abbrev pub ink_chain : List CifSymbol → InkShape → ℕ
ink_chain closed (Drawn boxes) = 0
ink_chain closed (Called call) = (symbol_at closed call.symbol).chain + 1

abbrev pub inks_boxes : List CifSymbol → List InkShape → List BoxShape
inks_boxes closed inks = flat_map (ink_boxes closed) inks

-- the definition that a symbol stands for
abbrev pub cif_symbol : List CifSymbol → Symbol → CifSymbol
cif_symbol closed s = record { number = s.number; boxes = inks_boxes closed s.inks.items; chain = s.chain }

abbrev pub with_symbol : List CifSymbol → Symbol → List CifSymbol
with_symbol closed s = closed ++ cif_symbol closed s ∷ []

-- the definitions that symbols stand for, in the order of the text
abbrev pub closed_symbols : List Symbol → List CifSymbol
closed_symbols symbols = fold with_symbol [] symbols

abbrev pub cif_stroke : List CifSymbol → StrokeShape → CifStroke
cif_stroke closed stroke = record { place = stroke.place; boxes = ink_boxes closed stroke.ink }

-- the strokes that these are, behind symbols
abbrev pub strokes_of : List Symbol → List StrokeShape → List CifStroke
strokes_of symbols strokes = map (cif_stroke (closed_symbols symbols)) strokes

-- the drawing that symbols, strokes and labels stand for
abbrev pub drawing_of : List Symbol → List StrokeShape → List Label → CifDrawing
drawing_of symbols strokes labels = record { strokes = strokes_of symbols strokes; labels = labels }

-- The symbol that is called was defined before, and draws boxes.
pub record IsCall (closed : List CifSymbol) (call : Call) : Type 0 where
  pub before : call.symbol < length closed
  pub draws : (symbol_at closed call.symbol).boxes ≢ []
  pub near : IsNear (2 ^ 103) call.placement.by

-- It draws boxes.
abbrev pub IsInk : List CifSymbol → InkShape → Type 0
IsInk closed (Drawn boxes) = boxes ≢ []
IsInk closed (Called call) = IsCall closed call

-- It makes no longer chain of calls.
pub record IsInkOf (closed : List CifSymbol) (chain : ℕ) (it : InkShape) : Type 0 where
  pub ink : IsInk closed it
  pub short : ink_chain closed it ≤ chain

-- What stands in the symbol draws boxes by symbols before it, in short chains; and this is its measure.
pub record IsSymbol (closed : List CifSymbol) (s : Symbol) : Type 0 where
  pub inks : (ink : InkShape) → Among s.inks.items ink → IsInkOf closed s.chain ink
  pub short : s.chain ≤ 64
  pub measure : IsMeasure s.chain s.measure (inks_boxes closed s.inks.items)

-- Each symbol is such behind those before it.
abbrev pub AreSymbols : List CifSymbol → List Symbol → Type 0
AreSymbols closed [] = ⊤
AreSymbols closed (s ∷ ss) = IsSymbol closed s × AreSymbols (with_symbol closed s) ss

-- Each stroke draws boxes.
abbrev pub AreStrokes : List CifSymbol → List StrokeShape → Type 0
AreStrokes closed strokes = (stroke : StrokeShape) → Among strokes stroke → IsInkOf closed 64 stroke.ink

-- Symbols and strokes of a drawing.
pub record IsDrawing (ss : List Symbol) (drawn : List StrokeShape) : Type 0 where
  pub symbols : AreSymbols [] ss
  pub strokes : AreStrokes (closed_symbols ss) drawn
