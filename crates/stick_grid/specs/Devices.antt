-- The transistors of a plan, row by row, and the devices that they are on named nets.
use Rattle.std.specs.Prelude.{◌≡◌, ℕ, List, [], ◌∷◌, map, flat_map, Option, Some, None}
use Rattle.std.specs.List.{range_with_len}
use Rattle.micro_tiles.specs.declared.device.Transistor.{Transistor}
use Rattle.micro_tiles.specs.Table.{transistor_at}
use Rattle.switch_net.specs.declared.network.Device.{Device}
use Rattle.nmos_model.specs.declared.channel.Channel.{Channel}
use Rattle.nmos_model.specs.Channels.{AreChannels}
use Rattle.nmos_model.specs.Devices.{device_on}
use Rattle.stick_grid.specs.Plans.{Plan, IsPlan, Covers}
use Rattle.stick_grid.specs.Pieces.{Piece}
use Rattle.stick_grid.specs.Transistors.{is_depletion, channel_at, piece}

-- the transistor of the tile in a row and column
pub record PlacedTransistor : Type 0 where
  pub row : ℕ
  pub col : ℕ
  pub transistor : Transistor

-- the transistor, if there is one, in its place
abbrev pub placed : ℕ → ℕ → Option Transistor → List PlacedTransistor
placed row col None = []
placed row col (Some transistor) = record { row = row; col = col; transistor = transistor } ∷ []

abbrev pub transistor_in : Plan → ℕ → ℕ → List PlacedTransistor
transistor_in plan row col = placed row col (transistor_at (plan.tile row col))

-- the transistors of a row, from the west
abbrev pub transistors_in_row : Plan → ℕ → List PlacedTransistor
transistors_in_row plan row = flat_map (transistor_in plan row) (range_with_len 0 plan.cols)

-- all transistors, row by row from the north
abbrev pub transistors_of : Plan → List PlacedTransistor
transistors_of plan = flat_map (transistors_in_row plan) (range_with_len 0 plan.rows)

-- the channel of a transistor
abbrev pub placed_channel : Plan → PlacedTransistor → Channel
placed_channel plan p = channel_at plan p.row p.col p.transistor

-- The channels of a plan's squares are those of its transistors, each once.
abbrev pub TransistorsAreChannels : Type 0
TransistorsAreChannels = (plan : Plan) → IsPlan plan → AreChannels (Covers plan) (map (placed_channel plan) (transistors_of plan))

-- The transistor is the device, where nets have these names and this one is the supply.
abbrev pub IsNamedDevice : (Piece → ℕ) → ℕ → PlacedTransistor → Device → Type 0
IsNamedDevice name vdd p device = device_on (is_depletion p.transistor.mode) vdd
    (name (piece p.row p.col p.transistor.gate)) (name (piece p.row p.col p.transistor.first)) (name (piece p.row p.col p.transistor.second)) ≡ Some device
