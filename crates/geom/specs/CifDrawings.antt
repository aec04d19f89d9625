-- What the commands of a CIF text draw.
use Rattle.std.specs.Prelude.{◌≡◌, ◌⊎◌, ℕ, zero, ◌+◌, ◌*◌, max, true, false, ◌==◌, ℤ, pos, negsuc, ◌+ℤ◌, ◌-ℤ◌, ◌*ℤ◌, int_div, List, [], ◌∷◌, ◌++◌, map, fold, find, Option, Some, None, IfSome, if◌then◌else◌}
use Rattle.rx_text.specs.Role.{NamedRole}
use Rattle.rx_text.specs.declared.place.Place.{Place}
use Rattle.geom.specs.declared.layer.Layer.{Layer}
use Rattle.geom.specs.declared.chip.Label.{Label}
use Rattle.geom.specs.declared.orient.Orient.{Orient}
use Rattle.geom.specs.declared.point.Point.{Point}
use Rattle.geom.specs.Squares.{BoxShape}
use Rattle.geom.specs.Turns.{moved}
use Rattle.geom.specs.CifCommands.{CifScale, CifMove, Translates, MirrorsX, MirrorsY, Rotates, CifCommand, Empty, Comment, Opens, Closes, CallsSymbol, SetsLayer, DrawsBox, DrawsPolygon, DrawsWire, Extension}
use Rattle.geom.specs.CifLabels.{layer_named, NamesPad, IsLabel}
use Rattle.geom.specs.CifShapes.{is_zero, is_along_axis, Outline, wire_outlines, outlined_box, ArePolygonBoxes}

-- a closed definition: its number, the boxes that it draws, and how many calls one within another it makes
pub record CifSymbol : Type 0 where
  pub number : ℕ
  pub boxes : List BoxShape
  pub chain : ℕ

-- a definition that is open: besides, its scale and the layer from before it
pub record CifOpening : Type 0 where
  pub symbol : CifSymbol
  pub scale : CifScale
  pub outer : Option Layer

-- a command outside definitions, and the boxes that it draws
pub record CifStroke : Type 0 where
  pub place : Place
  pub boxes : List BoxShape

-- what the commands outside definitions draw, and the labels, in the order of the text
pub record CifDrawing : Type 0 where
  pub strokes : List CifStroke
  pub labels : List Label

-- what commands leave to those behind them: the closed definitions, the last one first; the open one; the layer; the drawing
pub record CifState : Type 0 where
  pub symbols : List CifSymbol
  pub opening : Option CifOpening
  pub layer : Option Layer
  pub drawing : CifDrawing

-- before all commands
abbrev pub blank_state : CifState
blank_state = record { symbols = []; opening = None; layer = None; drawing = record { strokes = []; labels = [] } }

-- 1, or the scale of the definition that is open
abbrev pub scale_of : Option CifOpening → CifScale
scale_of None = record { times = 1; per = 1 }
scale_of (Some opening) = opening.scale

-- the scale that a definition names, or 1
abbrev pub scale_or_one : Option CifScale → CifScale
scale_or_one None = record { times = 1; per = 1 }
scale_or_one (Some scale) = scale

-- the closed definition of this number
abbrev pub symbol_of : CifState → ℕ → Option CifSymbol
symbol_of s n = find (λ symbol. symbol.number == n) s.symbols

-- the distance in λ of which this is twice the number of units, before scaling
abbrev pub scaled : CifScale → ℤ → ℤ
scaled scale twice = int_div (twice *ℤ pos scale.times) (pos (400 * scale.per))

-- the point in λ of a point in units
abbrev pub scaled_point : CifScale → Point → Point
scaled_point scale p = record { x = scaled scale (pos 2 *ℤ p.x); y = scaled scale (pos 2 *ℤ p.y) }

abbrev pub doubled : Point → Point
doubled p = record { x = pos 2 *ℤ p.x; y = pos 2 *ℤ p.y }

-- east, where a box has no direction
abbrev pub direction_or_east : Option Point → Point
direction_or_east None = record { x = pos 1; y = pos 0 }
direction_or_east (Some direction) = direction

-- twice the edges of a box by its centre, and by its sides from west to east and from south to north
abbrev pub centred_outline : Point → ℕ → ℕ → Outline
centred_outline centre across upward = record {
  left = pos 2 *ℤ centre.x -ℤ pos across;
  bottom = pos 2 *ℤ centre.y -ℤ pos upward;
  right = pos 2 *ℤ centre.x +ℤ pos across;
  top = pos 2 *ℤ centre.y +ℤ pos upward;
}

-- twice the edges of a box, whose length lies along its direction; none where that is not along an axis
abbrev pub box_outlines : ℕ → ℕ → Point → Point → List Outline
box_outlines along across centre direction =
    if is_along_axis direction.x direction.y
    then (if is_zero direction.y then centred_outline centre along across else centred_outline centre across along) ∷ []
    else []

-- twice the edges, in units, of the boxes that a box or a wire is
abbrev pub command_outlines : CifCommand → List Outline
command_outlines (DrawsBox along across centre direction) = box_outlines along across centre (direction_or_east direction)
command_outlines (DrawsWire width points) = wire_outlines width (map doubled points)
command_outlines other = []

-- the turn of the direction (1, 0) into that of (a, b)
abbrev pub rotation : ℤ → ℤ → Orient
rotation (pos zero) (negsuc b) = record { swap = true; neg_x = false; neg_y = true }
rotation (pos zero) b = record { swap = true; neg_x = true; neg_y = false }
rotation (negsuc a) b = record { swap = false; neg_x = true; neg_y = true }
rotation a b = record { swap = false; neg_x = false; neg_y = false }

-- a box transformed, in a definition of this scale
abbrev pub moved_by : CifScale → BoxShape → CifMove → BoxShape
moved_by scale b (Translates x y) =
    moved b (record { swap = false; neg_x = false; neg_y = false }) (scaled scale (pos 2 *ℤ x)) (scaled scale (pos 2 *ℤ y))
moved_by scale b MirrorsX = moved b (record { swap = false; neg_x = true; neg_y = false }) (pos 0) (pos 0)
moved_by scale b MirrorsY = moved b (record { swap = false; neg_x = false; neg_y = true }) (pos 0) (pos 0)
moved_by scale b (Rotates x y) = moved b (rotation x y) (pos 0) (pos 0)

-- the boxes of a symbol at a call, whose transformations act from left to right
abbrev pub called_boxes : CifScale → List CifMove → List BoxShape → List BoxShape
called_boxes scale moves boxes = map (λ b. fold (moved_by scale) b moves) boxes

-- one call more, where boxes are drawn
abbrev pub chain_if_drawn : List BoxShape → ℕ → ℕ
chain_if_drawn [] chain = 0
chain_if_drawn (b ∷ boxes) chain = chain + 1

-- The shapes that a command draws have these boxes.
abbrev pub DrawsShapes : CifScale → Layer → CifCommand → List BoxShape → Type 0
DrawsShapes scale layer (DrawsPolygon points) boxes = ArePolygonBoxes layer (map (scaled_point scale) points) boxes
DrawsShapes scale layer other boxes = boxes ≡ map (outlined_box layer (scaled scale)) (command_outlines other)

-- The command draws these boxes.
abbrev pub DrawsBoxes : CifState → CifCommand → List BoxShape → Type 0
DrawsBoxes s (CallsSymbol n moves) boxes =
    IfSome (symbol_of s n) (λ symbol. boxes ≡ called_boxes (scale_of s.opening) moves symbol.boxes)
DrawsBoxes s other boxes = IfSome s.layer (λ layer. DrawsShapes (scale_of s.opening) layer other boxes)

-- what a command draws, if that is anything
abbrev pub stroke_of : Place → List BoxShape → List CifStroke
stroke_of place [] = []
stroke_of place (b ∷ boxes) = record { place = place; boxes = b ∷ boxes } ∷ []

-- the state with boxes that a command draws, by so many calls one within another, in the open definition or outside
abbrev pub drawn_in : CifState → Place → List BoxShape → ℕ → Option CifOpening → CifState
drawn_in s place boxes chain None =
    record s { drawing = record { strokes = s.drawing.strokes ++ stroke_of place boxes; labels = s.drawing.labels } }
drawn_in s place boxes chain (Some opening) =
    record s {
      opening = Some (record opening {
        symbol = record {
          number = opening.symbol.number;
          boxes = opening.symbol.boxes ++ boxes;
          chain = max opening.symbol.chain chain;
        };
      });
    }

-- the state with the open definition closed
abbrev pub closed_state : CifState → Option CifOpening → CifState
closed_state s None = s
closed_state s (Some opening) = record s { symbols = opening.symbol ∷ s.symbols; opening = None; layer = opening.outer }

-- the state with a label
abbrev pub labelled_state : CifState → Label → CifState
labelled_state s label = record s { drawing = record { strokes = s.drawing.strokes; labels = s.drawing.labels ++ label ∷ [] } }

-- how many calls, one within another, a call of the symbol makes; none where it draws nothing
abbrev pub chain_of_call : Option CifSymbol → ℕ
chain_of_call None = 0
chain_of_call (Some symbol) = chain_if_drawn symbol.boxes symbol.chain

-- The command, which stands at this place, leads from one state to the other.
abbrev pub CommandLeads : CifState → Place → CifCommand → CifState → Type 0
CommandLeads s place Empty next = next ≡ s
CommandLeads s place Comment next = next ≡ s
CommandLeads s place (Opens n scale) next =
    next ≡ record s {
      opening = Some (record {
        symbol = record { number = n; boxes = []; chain = 0 };
        scale = scale_or_one scale;
        outer = s.layer;
      });
      layer = None;
    }
CommandLeads s place Closes next = next ≡ closed_state s s.opening
CommandLeads s place (SetsLayer name) next = next ≡ record s { layer = layer_named name }
CommandLeads s place (Extension text) next =
    ((label : Label) × IsLabel text label × (next ≡ labelled_state s label))
    ⊎ (((pad : NamedRole) (behind : List (List ℕ)) → NamesPad text pad behind → ⊥) × (next ≡ s))
CommandLeads s place (CallsSymbol n moves) next =
    (boxes : List BoxShape) × DrawsBoxes s (CallsSymbol n moves) boxes
    × (next ≡ drawn_in s place boxes (chain_of_call (symbol_of s n)) s.opening)
CommandLeads s place other next =
    (boxes : List BoxShape) × DrawsBoxes s other boxes × (next ≡ drawn_in s place boxes 0 s.opening)
