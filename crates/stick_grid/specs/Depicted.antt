-- The network that a plan with labels stands for, by names for the nets of its tiles.
use Rattle.std.specs.Prelude.{◌≡◌, ◌↔◌, ℕ, ◌-◌, ◌*◌, ◌<◌, pos, ◌+ℤ◌, List, []}
use Rattle.rx_text.specs.declared.pad_name.Role.{Role}
use Rattle.geom.specs.declared.layer.Layer.{Layer}
use Rattle.geom.specs.declared.chip.Label.{Label}
use Rattle.geom.specs.Rows.{Among}
use Rattle.geom.specs.Conduction.{Spot}
use Rattle.micro_tiles.specs.declared.side.Side.{Side}
use Rattle.micro_tiles.specs.Sides.{Carries}
use Rattle.micro_tiles.specs.Designs.{side_net}
use Rattle.micro_tiles.specs.Strips.{behind_x, behind_y}
use Rattle.micro_tiles.specs.Table.{design_of, port_at}
use Rattle.switch_net.specs.Circuit.{Circuit}
use Rattle.switch_net.specs.declared.network.Pad.{Pad}
use Rattle.nmos_model.specs.Lists.{Matched}
use Rattle.nmos_model.specs.Pads.{first_labels, IsNeeded, HasLabel}
use Rattle.nmos_model.specs.Devices.{IsSupply}
use Rattle.nmos_model.specs.Networks.{StandsFor}
use Rattle.nmos_model.specs.Refusals.{spot_of}
use Rattle.stick_grid.specs.Plans.{Plan, IsPlan, Covers}
use Rattle.stick_grid.specs.Pieces.{Piece, IsIn}
use Rattle.stick_grid.specs.Transistors.{piece}
use Rattle.stick_grid.specs.Names.{AreNames}
use Rattle.stick_grid.specs.Devices.{transistors_of, IsNamedDevice}

-- The pad has the label's name, on the net of this name.
pub record IsNamedPad (net : Label → ℕ) (label : Label) (pad : Pad) : Type 0 where
  pub name : pad.name ≡ label.pad
  pub number : pad.net.0 ≡ net label

-- Nets have names below the number of the network's nets. Each label stands on a net of a tile, one name on one net and one net under
-- one name; the roles that each chip needs have labels. The pads are the labels', the devices the transistors', row by row.
pub record Depicts (plan : Plan) (labels : List Label) (circuit : Circuit) : Type 0 where
  pub name : Piece → ℕ
  pub names : AreNames plan circuit.nets name
  pub under : Label → Piece
  pub on_squares : (label : Label) → Among labels label → IsIn plan (spot_of label) (under label)
  pub agree : (a b : Label) → Among labels a → Among labels b → (a.pad ≡ b.pad) ↔ (name (under a) ≡ name (under b))
  pub needed : (role : Role) → IsNeeded role → HasLabel labels role
  pub pads : Matched (IsNamedPad (λ label. name (under label))) (first_labels [] labels) circuit.pads
  pub vdd : ℕ
  pub supply : IsSupply circuit.pads vdd
  pub devices : Matched (IsNamedDevice name vdd) (transistors_of plan) circuit.devices

-- The squares of a plan with labels stand for the network that it depicts.
abbrev pub PlansStandForNetworks : Type 0
PlansStandForNetworks = (plan : Plan) (labels : List Label) (circuit : Circuit) → IsPlan plan → Depicts plan labels circuit → StandsFor (Covers plan) labels circuit

-- the sixth square of what a layer has at the side of the tile in a row and column
abbrev pub border_spot : Plan → ℕ → ℕ → Side → Layer → Spot
border_spot plan row col side layer = record {
  layer = layer;
  x = pos (14 * col) +ℤ behind_x side (pos 0) (pos 6);
  y = pos (14 * (plan.rows - 1 - row)) +ℤ behind_y side (pos 0) (pos 6);
}

-- It is of the net that the side has there.
abbrev pub PortsHaveSquares : Type 0
PortsHaveSquares = (plan : Plan) (row col : ℕ) (side : Side) (layer : Layer) → IsPlan plan → row < plan.rows → col < plan.cols
    → Carries (port_at (plan.tile row col) side) layer
    → IsIn plan (border_spot plan row col side layer) (piece row col (side_net (design_of (plan.tile row col)) side layer))
