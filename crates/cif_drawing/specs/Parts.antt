-- What the commands of a text have drawn so far.
use Rattle.std.specs.Prelude.{ℕ, ◌==◌, max, List, [], ◌∷◌, ◌++◌, find, Option, Some, None}
use Rattle.rx_text.specs.declared.place.Place.{Place}
use Rattle.geom.specs.declared.chip.Label.{Label}
use Rattle.geom.specs.Squares.{BoxShape}
use Rattle.geom.specs.CifDrawings.{CifSymbol, CifDrawing, stroke_of, chain_if_drawn}

-- the closed definitions, the last one first; the open one; and what stands outside definitions
pub record DrawingParts : Type 0 where
  pub symbols : List CifSymbol
  pub opening : Option CifSymbol
  pub drawing : CifDrawing

-- before all commands
abbrev pub blank_parts : DrawingParts
blank_parts = record { symbols = []; opening = None; drawing = record { strokes = []; labels = [] } }

-- the closed definition of this number
abbrev pub part_of : DrawingParts → ℕ → Option CifSymbol
part_of parts n = find (λ symbol. symbol.number == n) parts.symbols

-- its boxes
abbrev pub part_boxes : Option CifSymbol → List BoxShape
part_boxes None = []
part_boxes (Some symbol) = symbol.boxes

-- how many calls, one within another, a call of it makes, where it is defined
abbrev pub part_chain : Option CifSymbol → Option ℕ
part_chain None = None
part_chain (Some symbol) = Some (chain_if_drawn symbol.boxes symbol.chain)

-- that number, or 0
abbrev pub chain_or_none : Option CifSymbol → ℕ
chain_or_none None = 0
chain_or_none (Some symbol) = chain_if_drawn symbol.boxes symbol.chain

-- a definition with no command yet
abbrev pub new_symbol : ℕ → CifSymbol
new_symbol n = record { number = n; boxes = []; chain = 0 }

-- with the definition that is open
abbrev pub opened_parts : DrawingParts → ℕ → DrawingParts
opened_parts parts n = record parts { opening = Some (new_symbol n) }

-- with that definition closed
abbrev pub closed_parts : DrawingParts → Option CifSymbol → DrawingParts
closed_parts parts None = parts
closed_parts parts (Some symbol) = record parts { symbols = symbol ∷ parts.symbols; opening = None }

-- a definition with boxes that a command draws, by so many calls one within another
abbrev pub drawn_symbol : CifSymbol → List BoxShape → ℕ → CifSymbol
drawn_symbol symbol boxes chain =
    record { number = symbol.number; boxes = symbol.boxes ++ boxes; chain = max symbol.chain chain }

-- with such boxes, in the definition that is open or outside
abbrev pub drawn_parts : DrawingParts → Place → List BoxShape → ℕ → Option CifSymbol → DrawingParts
drawn_parts parts place boxes chain None =
    record parts { drawing = record { strokes = parts.drawing.strokes ++ stroke_of place boxes; labels = parts.drawing.labels } }
drawn_parts parts place boxes chain (Some symbol) = record parts { opening = Some (drawn_symbol symbol boxes chain) }

-- with a label
abbrev pub labelled_parts : DrawingParts → Label → DrawingParts
labelled_parts parts label =
    record parts { drawing = record { strokes = parts.drawing.strokes; labels = parts.drawing.labels ++ label ∷ [] } }
