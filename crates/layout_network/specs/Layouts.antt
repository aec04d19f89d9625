-- What the bytes of a layout stand for, and why those of others stand for nothing.
use Rattle.std.specs.Prelude.{ℕ, ◌≤◌, List, length}
use Rattle.rx_text.specs.declared.place.Place.{Place}
use Rattle.geom.specs.declared.chip.Label.{Label}
use Rattle.geom.specs.declared.cif_code.CifCode.{CifCode}
use Rattle.geom.specs.Squares.{BoxShape, Covered}
use Rattle.geom.specs.CifDrawings.{CifDrawing}
use Rattle.geom.specs.CifRefusals.{CifRefusal, DrawsCif, FlatRefusal, IsCifText}
use Rattle.switch_net.specs.Circuit.{Circuit}
use Rattle.nmos_model.specs.Networks.{StandsFor}
use Rattle.nmos_model.specs.Refusals.{IsRefused}
use Rattle.nmos_model.specs.declared.refusal.ExtractCode.{ExtractCode}
use Rattle.layout_network.specs.declared.fault.LayoutCode.{LayoutCode}
use Rattle.layout_network.specs.declared.fault.LayoutCode.TheVariants.{Drawing, Network}

-- The file is a CIF text, and the squares of the boxes that it draws, with its labels, stand for this circuit.
pub record DrawsNetwork (file : List ℕ) (circuit : Circuit) : Type 0 where
  pub boxes : List BoxShape
  pub labels : List Label
  pub draws : DrawsCif file boxes labels
  pub stands : StandsFor (Covered boxes) labels circuit

-- the most boxes that a layout draws which is read
abbrev pub most_boxes : ℕ
most_boxes = 8000000

-- The text draws these boxes and labels, and no more boxes than are read.
pub record DrawsFew (text : List ℕ) (boxes : List BoxShape) (labels : List Label) : Type 0 where
  pub draws : DrawsCif text boxes labels
  pub few : length boxes ≤ most_boxes

-- The text is a layout that stands for this circuit, and it draws no more boxes than are read.
pub record IsLayout (text : List ℕ) (circuit : Circuit) : Type 0 where
  pub drawn : DrawsNetwork text circuit
  pub few : length drawn.boxes ≤ most_boxes

-- The layout is refused with this code at this place: its text has one; else a command draws boxes too far away, or too many; else what it
-- draws stands for no network.
pub data LayoutRefusal (text : List ℕ) : LayoutCode → Place → Type 0 where
  no_text : (code : CifCode) (place : Place) → CifRefusal text code place → LayoutRefusal text (Drawing code) place
  not_flat : (drawing : CifDrawing) (code : CifCode) (place : Place) → IsCifText text drawing → FlatRefusal drawing.strokes code place
      → LayoutRefusal text (Drawing code) place
  no_network : (boxes : List BoxShape) (labels : List Label) (code : ExtractCode) (place : Place) → DrawsFew text boxes labels
      → IsRefused (Covered boxes) labels code place → LayoutRefusal text (Network code) place
