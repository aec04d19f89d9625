-- Modules with labels at their borders, and the networks that their squares stand for.
use Rattle.std.specs.Prelude.{◌≡◌, ◌↔◌, ℕ, ◌<◌, ◌≤◌, List, [], Some}
use Rattle.rx_text.specs.declared.pad_name.Role.{Role}
use Rattle.geom.specs.declared.chip.Label.{Label}
use Rattle.geom.specs.Rows.{Among}
use Rattle.geom.specs.Conduction.{Drawing}
use Rattle.micro_tiles.specs.declared.side.Side.{Side}
use Rattle.switch_net.specs.Circuit.{Circuit, IsSameNetwork}
use Rattle.nmos_model.specs.Lists.{Matched}
use Rattle.nmos_model.specs.Pads.{first_labels, IsNeeded, HasLabel}
use Rattle.nmos_model.specs.Devices.{IsSupply}
use Rattle.nmos_model.specs.Networks.{StandsFor}
use Rattle.nmos_model.specs.Refusals.{spot_of}
use Rattle.stick_grid.specs.Plans.{Plan, Covers}
use Rattle.stick_grid.specs.Pieces.{Piece}
use Rattle.stick_grid.specs.Depicted.{IsNamedPad, border_spot}
use Rattle.stick_grid.specs.Modules.{Border, IsModule, places_along, row_along, col_along}

-- The labels stand at places along the border, on the nets that lead out there in their layers.
pub record AreBorderLabels (plan : Plan) (border : Border) (labels : List Label) (net : Label → ℕ) : Type 0 where
  pub side : Label → Side
  pub place : Label → ℕ
  pub along : (label : Label) → Among labels label → place label < places_along plan (side label)
  pub spot : (label : Label) → Among labels label
      → spot_of label ≡ border_spot plan (row_along plan (side label) (place label)) (col_along plan (side label) (place label))
      (side label) label.layer
  pub leads_out : (label : Label) → Among labels label → border (side label) (place label) label.layer ≡ Some (net label)

-- Labels on these nets make the pads of the network: one name on one net and one net under one name, with the roles that each chip needs.
pub record MakePads (labels : List Label) (net : Label → ℕ) (vdd : ℕ) (circuit : Circuit) : Type 0 where
  pub agree : (a b : Label) → Among labels a → Among labels b → (a.pad ≡ b.pad) ↔ (net a ≡ net b)
  pub needed : (role : Role) → IsNeeded role → HasLabel labels role
  pub pads : Matched (IsNamedPad net) (first_labels [] labels) circuit.pads
  pub supply : IsSupply circuit.pads vdd

-- The squares stand for this network, its devices in some order.
pub record StandsForSame (Drawn : Drawing) (labels : List Label) (circuit : Circuit) : Type 0 where
  pub drawn : Circuit
  pub stands : StandsFor Drawn labels drawn
  pub same : IsSameNetwork drawn circuit

-- The squares of a module with such labels stand for the network of its devices and these pads.
abbrev pub ModulesStandForNetworks : Type 0
ModulesStandForNetworks = (plan : Plan) (name : Piece → ℕ) (vdd : ℕ) (border : Border) (labels : List Label) (net : Label → ℕ) (circuit : Circuit)
    → 1 ≤ plan.rows → 1 ≤ plan.cols → IsModule plan circuit.nets name vdd circuit.devices border → AreBorderLabels plan border labels net
    → MakePads labels net vdd circuit → StandsForSame (Covers plan) labels circuit
