-- A drawing that is being built.
use Rattle.std.specs.Prelude.{⊤, ◌≡◌, ℕ, max, List, [], ◌∷◌, ◌++◌, reverse, Option, Some, None}
use Rattle.rx_text.specs.declared.place.Place.{Place}
use Rattle.geom.specs.declared.chip.Label.{Label}
use Rattle.geom.specs.Squares.{BoxShape}
use Rattle.geom.specs.CifDrawings.{CifSymbol}
use Rattle.cif_drawing.specs.Shapes.{InkShape, StrokeShape}
use Rattle.cif_drawing.specs.declared.ink.Symbol.{Symbol}
use Rattle.cif_drawing.specs.declared.measure.Measure.{Measure}
use Rattle.cif_drawing.specs.Measures.{IsMeasure}
use Rattle.cif_drawing.specs.Inks.{cif_symbol, closed_symbols, drawing_of, IsSymbol, IsDrawing}
use Rattle.cif_drawing.specs.Numbers.{IsIndexOf}
use Rattle.cif_drawing.specs.Parts.{DrawingParts}

abbrev pub open_symbol : List CifSymbol → Option Symbol → Option CifSymbol
open_symbol closed None = None
open_symbol closed (Some s) = Some (cif_symbol closed s)

-- what symbols, the open definition, strokes and labels stand for
abbrev pub parts_of : List Symbol → Option Symbol → List StrokeShape → List Label → DrawingParts
parts_of symbols opening strokes labels = record {
  symbols = reverse (closed_symbols symbols);
  opening = open_symbol (closed_symbols symbols) opening;
  drawing = drawing_of symbols strokes labels;
}

-- The open definition has a new number.
abbrev pub IsOpening : List Symbol → Option Symbol → Type 0
IsOpening symbols None = ⊤
IsOpening symbols (Some s) = IsSymbol (closed_symbols symbols) s × IsIndexOf symbols s.number None

-- what holds between commands
pub record IsBuilding (symbols : List Symbol) (unclosed : Option Symbol) (strokes : List StrokeShape) : Type 0 where
  pub drawing : IsDrawing symbols strokes
  pub opening : IsOpening symbols unclosed

-- The symbol with one thing more in it, of this measure, which makes so many calls one within another.
pub record IsInked (old : Symbol) (ink : InkShape) (measure : Option Measure) (chain : ℕ) (new : Symbol) : Type 0 where
  pub number : new.number ≡ old.number
  pub inks : new.inks.items ≡ old.inks.items ++ ink ∷ []
  pub chain_is : new.chain ≡ max old.chain chain
  pub joined : (n : ℕ) (xs ys : List BoxShape) → IsMeasure n old.measure xs → IsMeasure n measure ys → IsMeasure n new.measure (xs ++ ys)

-- It was added to the open definition, or to the strokes.
abbrev pub IsAdded : Option Symbol → List StrokeShape → Place → InkShape → Option Measure → ℕ → Option Symbol → List StrokeShape → Type 0
IsAdded None strokes place ink measure chain None strokes' = strokes' ≡ strokes ++ record { place = place; ink = ink } ∷ []
IsAdded (Some old) strokes place ink measure chain (Some new) strokes' = IsInked old ink measure chain new × (strokes' ≡ strokes)
IsAdded old strokes place ink measure chain new strokes' = ⊥
