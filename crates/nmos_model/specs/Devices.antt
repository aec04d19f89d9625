-- The devices that channels make, by the nets of their gates and terminals.
use Rattle.std.specs.Prelude.{◌≡◌, ℕ, ◌^◌, pos, neg_ℤ, ◌≤ℤ◌, ◌==◌, ◌&&◌, Bool, true, false, if◌then◌else◌, List, Option, Some, None}
use Rattle.geom.specs.Conduction.{Spot}
use Rattle.geom.specs.Rows.{Among}
use Rattle.rx_text.specs.declared.pad_name.Role.TheVariants.{Vdd}
use Rattle.switch_net.specs.declared.network.Pad.{Pad}
use Rattle.switch_net.specs.declared.network.Device.{Device}
use Rattle.switch_net.specs.declared.network.Device.TheVariants.{Pass, Load}
use Rattle.nmos_model.specs.declared.channel.Channel.{Channel}
use Rattle.nmos_model.specs.Channels.{gate_of, first_of, second_of}
use Rattle.nmos_model.specs.Lists.{Matched}
use Rattle.nmos_model.specs.Pads.{NetAt}

-- the net of a spot
abbrev pub spot_net : NetAt → Spot → Option ℕ
spot_net net spot = net spot.layer spot.x spot.y

-- a load pulls up the net of its gate, which is the net of a terminal, from the net of the supply at the other one
abbrev pub is_load : ℕ → ℕ → ℕ → ℕ → Bool
is_load vdd gate pulled other = gate == pulled && other == vdd

-- the device with this gate and these terminals: a load, where it is a depletion device
abbrev pub device_on : Bool → ℕ → ℕ → ℕ → ℕ → Option Device
device_on false vdd gate first second = Some (Pass (record { 0 = gate }) (record { 0 = first }) (record { 0 = second }))
device_on true vdd gate first second =
    if is_load vdd gate first second then Some (Load (record { 0 = first }))
    else if is_load vdd gate second first then Some (Load (record { 0 = second }))
    else None

-- The lower left corner of the channel is not farther than 2^40 to the left of the origin, or below it.
pub record IsNear (c : Channel) : Type 0 where
  pub across : neg_ℤ (pos (2 ^ 40)) ≤ℤ c.x1
  pub upward : neg_ℤ (pos (2 ^ 40)) ≤ℤ c.y1

-- The gate and the terminals of the channel have nets.
pub record OnNets (net : NetAt) (c : Channel) : Type 0 where
  pub gate : ℕ
  pub first : ℕ
  pub second : ℕ
  pub gate_is : spot_net net (gate_of c) ≡ Some gate
  pub first_is : spot_net net (first_of c) ≡ Some first
  pub second_is : spot_net net (second_of c) ≡ Some second

-- The channel is the device, where the supply has the net vdd.
pub record IsDeviceOf (net : NetAt) (vdd : ℕ) (c : Channel) (device : Device) : Type 0 where
  pub nets : OnNets net c
  pub is : device_on c.depletion vdd nets.gate nets.first nets.second ≡ Some device

-- The devices are those of the channels, in order.
abbrev pub AreDevices : NetAt → ℕ → List Channel → List Device → Type 0
AreDevices net vdd channels devices = Matched (IsDeviceOf net vdd) channels devices

-- a pad of the supply is on the net
abbrev pub IsSupply : List Pad → ℕ → Type 0
IsSupply pads vdd = (pad : Pad) × Among pads pad × (pad.name.role ≡ Vdd) × (pad.net.0 ≡ vdd)

-- The channel is a depletion device and no load.
pub record IsNoLoad (net : NetAt) (vdd : ℕ) (c : Channel) : Type 0 where
  pub depletion : c.depletion ≡ true
  pub none : (nets : OnNets net c) → device_on true vdd nets.gate nets.first nets.second ≡ None
