-- What is drawn of a network: a plan whose nets have names, with its devices and its border.
use Rattle.std.specs.Prelude.{◌≡◌, ℕ, ◌-◌, ◌<◌, ◌≤◌, List, map, Option, option_map, IsPermutation}
use Rattle.geom.specs.declared.layer.Layer.{Layer}
use Rattle.micro_tiles.specs.declared.side.Side.{Side}
use Rattle.micro_tiles.specs.declared.side.Side.TheVariants.{North, East, South, West}
use Rattle.micro_tiles.specs.Nets.{named_net}
use Rattle.switch_net.specs.Circuit.{ascending}
use Rattle.switch_net.specs.declared.network.Device.{Device}
use Rattle.nmos_model.specs.Lists.{Matched}
use Rattle.stick_grid.specs.Plans.{Plan, IsPlan}
use Rattle.stick_grid.specs.Pieces.{Piece}
use Rattle.stick_grid.specs.Transistors.{piece}
use Rattle.stick_grid.specs.Names.{AreNames}
use Rattle.stick_grid.specs.Devices.{transistors_of, IsNamedDevice}
use Rattle.stick_grid.specs.Windows.{HaveSameTiles}

-- how many tiles the plan has along a side
abbrev pub places_along : Plan → Side → ℕ
places_along plan North = plan.cols
places_along plan East = plan.rows
places_along plan South = plan.cols
places_along plan West = plan.rows

-- the row and the column of the tile at a place along a side, from the west or from the north
abbrev pub row_along : Plan → Side → ℕ → ℕ
row_along plan North place = 0
row_along plan East place = place
row_along plan South place = plan.rows - 1
row_along plan West place = place

abbrev pub col_along : Plan → Side → ℕ → ℕ
col_along plan North place = place
col_along plan East place = plan.cols - 1
col_along plan South place = place
col_along plan West place = 0

-- the net that leads out at a place along a side in a layer, if one does
abbrev pub Border : Type 0
Border = Side → ℕ → Layer → Option ℕ

abbrev pub net_along : Plan → (Piece → ℕ) → Border
net_along plan name side place layer =
    option_map (λ net. name (piece (row_along plan side place) (col_along plan side place) net))
    (named_net (plan.tile (row_along plan side place) (col_along plan side place)) side layer)

-- The plan is one; the names are those of its nets, all below the count; its transistors on these nets are the devices, as often as
-- they occur, whichever end of a pass device comes first; and exactly these nets lead out of its border.
pub record IsModule (plan : Plan) (count : ℕ) (name : Piece → ℕ) (vdd : ℕ) (devices : List Device) (border : Border) : Type 0 where
  pub is_plan : IsPlan plan
  pub names : AreNames plan count name
  pub drawn : List Device
  pub transistors : Matched (IsNamedDevice name vdd) (transistors_of plan) drawn
  pub as_drawn : IsPermutation (map ascending drawn) (map ascending devices)
  pub border_is : (side : Side) (place : ℕ) (layer : Layer) → place < places_along plan side
      → net_along plan name side place layer ≡ border side place layer

-- A plan with the same tiles is the same module.
abbrev pub SameTilesAreModules : Type 0
SameTilesAreModules = (one other : Plan) (count : ℕ) (name : Piece → ℕ) (vdd : ℕ) (devices : List Device) (border : Border) → HaveSameTiles one other
    → 1 ≤ one.rows → 1 ≤ one.cols → IsModule one count name vdd devices border → IsModule other count name vdd devices border
