-- Drawings that fill rows and columns of tiles.
use Rattle.std.specs.Prelude.{ℕ, ◌*◌, ◌≤◌, ℤ, pos, ◌+ℤ◌, ◌≤ℤ◌, ◌<ℤ◌, length}
use Rattle.geom.specs.declared.layer.Layer.{Layer}
use Rattle.geom.specs.Conduction.{Drawing}
use Rattle.rx_lang.specs.Tables.{Tables, IsSpecification}
use Rattle.position_nfa.specs.Automaton.{Automaton, IsAutomaton}
use Rattle.stick_grid.specs.Plans.{Covers}
use Rattle.pla_plan.specs.Planes.{planes_plan}
use Rattle.pla_plan.specs.ArrayOf.{array_of}

-- the drawing covers a square in a layer
pub record CoveredSquare (Drawn : Drawing) : Type 0 where
  pub layer : Layer
  pub x : ℤ
  pub y : ℤ
  pub covered : Drawn layer x y

-- The squares lie in so many columns and rows of tiles, and there are some in each outermost one.
pub record FillsTiles (Drawn : Drawing) (cols rows : ℕ) : Type 0 where
  pub left : (layer : Layer) (x y : ℤ) → Drawn layer x y → pos 0 ≤ℤ x
  pub right : (layer : Layer) (x y : ℤ) → Drawn layer x y → x <ℤ pos (14 * cols)
  pub bottom : (layer : Layer) (x y : ℤ) → Drawn layer x y → pos 0 ≤ℤ y
  pub top : (layer : Layer) (x y : ℤ) → Drawn layer x y → y <ℤ pos (14 * rows)
  pub west : CoveredSquare Drawn
  pub westernmost : west.x <ℤ pos 14
  pub east : CoveredSquare Drawn
  pub easternmost : pos (14 * cols) ≤ℤ (east.x +ℤ pos 14)
  pub south : CoveredSquare Drawn
  pub southernmost : south.y <ℤ pos 14
  pub north : CoveredSquare Drawn
  pub northernmost : pos (14 * rows) ≤ℤ (north.y +ℤ pos 14)

-- An automaton's array fills its rows and columns.
abbrev pub ArraysFill : Type 0
ArraysFill = (nfa : Automaton) (tables : Tables) → IsAutomaton nfa → IsSpecification tables → length nfa.symbols ≤ 256
    → FillsTiles (Covers (planes_plan (array_of nfa tables))) (array_of nfa tables).cols (array_of nfa tables).rows
