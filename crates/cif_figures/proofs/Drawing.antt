-- Shapes that are drawn.
use Rattle.std.proofs.Common.{◌≡◌, ℕ, ◌-◌, List, [], ◌∷◌, map, Option, Some, None, IfSome, refl, sym, ◌∙◌, subst}
use Rattle.geom.specs.declared.layer.Layer.{Layer}
use Rattle.geom.specs.declared.point.Point.{Point}
use Rattle.geom.specs.declared.cif_code.CifCode.{CifCode}
use Rattle.geom.specs.declared.cif_code.CifCode.TheVariants.{C3}
use Rattle.geom.specs.Squares.{BoxShape}
use Rattle.geom.specs.CifCommands.{CifScale, CifCommand, DrawsBox, command_parts}
use Rattle.geom.specs.CifShapes.{outlined_box}
use Rattle.geom.specs.CifDrawings.{CifState, scale_of, scaled, direction_or_east, box_outlines, drawn_in, DrawsShapes}
use Rattle.cif_values.specs.declared.boxes.Sides.{Sides}
use Rattle.cif_values.specs.Parts.{PartsAt}
use Rattle.cif_values.specs.Values.{SidesStand}
use Rattle.cif_kinds.specs.declared.kinds.CommandKind.TheVariants as kind
use Rattle.cif_codes.specs.declared.scale.Scale.{Scale}
use Rattle.cif_codes.specs.Scales.{ratio, grid_of}
use Rattle.cif_codes.specs.Least.{IsLeastCode}
use Rattle.cif_figures.specs.Figures.{CommandOf, Leads, Draws}
use Rattle.cif_figures.specs.Boxes.{IsClearBox}
use Rattle.cif_figures.proofs.ByKind.{PartsLaw, BoxParts, is_box, parts_of}
use Rattle.cif_figures.proofs.Simple.{least_there, leads_by}

-- a state with an open definition of this scale, where this layer is set
abbrev pub scaled_state : CifScale → Option Layer → CifState
scaled_state scale layer = record {
  symbols = [];
  opening = Some (record { symbol = record { number = 0; boxes = []; chain = 0 }; scale = scale; outer = None });
  layer = layer;
  drawing = record { strokes = []; labels = [] };
}

-- the shapes of a command by the scale and the layer
pub shaped : (s : CifState) (d : CifCommand) (scale : CifScale) (layer : Layer) (boxes : List BoxShape) → scale_of s.opening ≡ scale
    → s.layer ≡ Some layer
    → DrawsShapes scale layer d boxes → IfSome s.layer (λ l. DrawsShapes (scale_of s.opening) l d boxes)
shaped s d scale layer boxes e f h =
    let P : CifScale → Type 0 = λ v. DrawsShapes v layer d boxes in
    let Q : Option Layer → Type 0 = λ v. IfSome v (λ l. DrawsShapes (scale_of s.opening) l d boxes) in
    subst Q (sym f) (subst P (sym e) h)

-- ---- boxes

-- the sides of a box that stands in a text
pub record BoxHere (c : CifCommand) (scale : Scale) (sides : Sides) : Type 0 where
  pub parts : BoxParts c
  pub stand : SidesStand (grid_of scale) parts.along parts.across parts.centre parts.direction sides

-- what is read of a box
abbrev pub BoxReads : List ℕ → ℕ → ℕ → Sides → Type 0
BoxReads text first divisor sides =
    (stop along across : ℕ) (centre : Point) (direction : Option Point)
    → PartsAt text first stop (command_parts (DrawsBox along across centre direction))
    → SidesStand divisor along across centre direction sides

-- which code boxes of these sides meet
abbrev pub BoxLaw : Scale → Option Layer → Sides → Option CifCode → Type 0
BoxLaw scale layer sides r =
    (s : CifState) (along across : ℕ) (centre : Point) (direction : Option Point) → s.layer ≡ layer → scale_of s.opening ≡ ratio scale
    → SidesStand (grid_of scale) along across centre direction sides → IsLeastCode s (DrawsBox along across centre direction) r

pub box_at : (text : List ℕ) (first end : ℕ) (k : CommandOf text first end kind.Box) (scale : Scale) (divisor : ℕ) (sides : Sides) → PartsLaw
    → BoxReads text first divisor sides
    → divisor ≡ grid_of scale → BoxHere k.stands.here.command scale sides
box_at text first end k scale divisor sides law reads e =
    let b = is_box k.stands.here.command k.kind_is in
    let p = parts_of text first end kind.Box k (DrawsBox b.along b.across b.centre b.direction) b.is tt law in
    let P : ℕ → Type 0 = λ v. SidesStand v b.along b.across b.centre b.direction sides in
    record { parts = b; stand = subst P e (reads (end - 1) b.along b.across b.centre b.direction p) }

pub box_fault : (s : CifState) (c : CifCommand) (scale : Scale) (layer : Option Layer) (sides : Sides) (r t : Option CifCode)
    → BoxHere c scale sides → BoxLaw scale layer sides r
    → r ≡ t → Draws s (ratio scale) layer → IsLeastCode s c t
box_fault s c scale layer sides r t h law e d =
    least_there s c (DrawsBox h.parts.along h.parts.across h.parts.centre h.parts.direction) r t h.parts.is e
    (law s h.parts.along h.parts.across h.parts.centre h.parts.direction d.layer_is d.scale_is h.stand)

-- where no layer is set, a box meets a code
pub box_bare : (c : CifCommand) (scale : Scale) (layer : Option Layer) (sides : Sides) (r : Option CifCode) → BoxHere c scale sides
    → BoxLaw scale layer sides r
    → r ≡ None → layer ≡ None → ⊥
box_bare c scale layer sides r h law e f =
    let s = scaled_state (ratio scale) None in
    let P : Option CifCode → Type 0 = λ v. IsLeastCode (scaled_state (ratio scale) None) (DrawsBox h.parts.along h.parts.across h.parts.centre
    h.parts.direction) v in
    subst P e (law s h.parts.along h.parts.across h.parts.centre h.parts.direction (sym f) refl h.stand) C3 refl

pub box_clear : (c : CifCommand) (scale : Scale) (given : Option Layer) (layer : Layer) (sides : Sides) (r : Option CifCode)
    → (h : BoxHere c scale sides)
    → BoxLaw scale given sides r → r ≡ None → given ≡ Some layer
    → IsClearBox scale layer h.parts.along h.parts.across h.parts.centre h.parts.direction sides
box_clear c scale given layer sides r h law e f =
    let s = scaled_state (ratio scale) (Some layer) in
    let P : Option CifCode → Type 0 = λ v. IsLeastCode (scaled_state (ratio scale) (Some layer))
    (DrawsBox h.parts.along h.parts.across h.parts.centre h.parts.direction) v in
    record {
      state = s;
      stand = h.stand;
      scale_is = refl;
      layer_is = refl;
      clear = subst P e (law s h.parts.along h.parts.across h.parts.centre h.parts.direction (sym f) refl h.stand);
    }

pub box_leads : (s : CifState) (c : CifCommand) (scale : Scale) (given : Option Layer) (layer : Layer) (sides : Sides) (r : Option CifCode)
    (b : BoxShape)
    → (h : BoxHere c scale sides) → BoxLaw scale given sides r → r ≡ None → given ≡ Some layer
    → b ∷ [] ≡ map (outlined_box layer (scaled (ratio scale))) (box_outlines h.parts.along h.parts.across h.parts.centre
    (direction_or_east h.parts.direction))
    → Draws s (ratio scale) given → Leads s c (λ place. drawn_in s place (b ∷ []) 0 s.opening)
box_leads s c scale given layer sides r b h law e f boxes d =
    let box : CifCommand = DrawsBox h.parts.along h.parts.across h.parts.centre h.parts.direction in
    leads_by s c box r (λ place. drawn_in s place (b ∷ []) 0 s.opening) h.parts.is e
    (law s h.parts.along h.parts.across h.parts.centre h.parts.direction d.layer_is d.scale_is h.stand)
    (λ place. (b ∷ [], shaped s box (ratio scale) layer (b ∷ []) d.scale_is (d.layer_is ∙ f) boxes, refl))
