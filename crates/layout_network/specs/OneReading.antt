-- Layouts have one reading.
use Rattle.std.specs.Prelude.{◌≡◌, ℕ, List, All}
use Rattle.rx_text.specs.declared.place.Place.{Place}
use Rattle.geom.specs.CifLabels.{IsPadName}
use Rattle.switch_net.specs.Circuit.{Circuit, IsSameNetwork}
use Rattle.layout_network.specs.Layouts.{IsLayout, LayoutRefusal}
use Rattle.layout_network.specs.declared.fault.LayoutCode.{LayoutCode}

-- A layout stands for one network at most, up to numbers and order, is refused once at most, and is never both; and pads bear names where
-- their roles have them.
pub record LayoutsHaveOneReading : Type 0 where
  pub one_network : (text : List ℕ) (one other : Circuit) → IsLayout text one → IsLayout text other → IsSameNetwork one other
  pub one_refusal : (text : List ℕ) (code other : LayoutCode) (place there : Place) → LayoutRefusal text code place → LayoutRefusal text other there
      → (code ≡ other) × (place ≡ there)
  pub never_both : (text : List ℕ) (circuit : Circuit) (code : LayoutCode) (place : Place) → IsLayout text circuit → LayoutRefusal text code place → ⊥
  pub named : (text : List ℕ) (circuit : Circuit) → IsLayout text circuit → All (λ pad. IsPadName pad.name) circuit.pads
