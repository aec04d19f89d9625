-- A switch network as contracts see it, and when two networks are the same.
use Rattle.std.specs.Prelude.{◌≡◌, ℕ, nat_le, if◌then◌else◌, List, [], ◌∷◌, ◌++◌, map, flat_map, Contains, IsPermutation}
use Rattle.switch_net.specs.declared.network.Pad.{Pad}
use Rattle.switch_net.specs.declared.network.Device.{Device}
use Rattle.switch_net.specs.declared.network.Device.TheVariants.{Pass, Load}

-- nets are numbered from 0; pads and devices stand in order
pub record Circuit : Type 0 where
  pub nets : ℕ
  pub pads : List Pad
  pub devices : List Device

-- the nets that a device touches
abbrev pub device_nets : Device → List ℕ
device_nets (Pass gate a b) = gate.0 ∷ a.0 ∷ b.0 ∷ []
device_nets (Load net) = net.0 ∷ []

-- the nets that pads and devices touch, as often as they do
abbrev pub touched : Circuit → List ℕ
touched circuit = map (λ pad. pad.net.0) circuit.pads ++ flat_map device_nets circuit.devices

-- the pad on the renamed net
abbrev pub renamed_pad : (ℕ → ℕ) → Pad → Pad
renamed_pad rename pad = record { name = pad.name; net = record { 0 = rename pad.net.0 } }

-- the device on the renamed nets
abbrev pub renamed_device : (ℕ → ℕ) → Device → Device
renamed_device rename (Pass gate a b) =
    Pass (record { 0 = rename gate.0 }) (record { 0 = rename a.0 }) (record { 0 = rename b.0 })
renamed_device rename (Load net) = Load (record { 0 = rename net.0 })

-- the device with its ends in ascending order, since a pass device has no direction
abbrev pub ascending : Device → Device
ascending (Pass gate a b) = if nat_le a.0 b.0 then Pass gate a b else Pass gate b a
ascending (Load net) = Load net

-- Two networks are the same where a renaming that keeps the touched nets apart carries the pads to the pads, in order,
-- and the devices, as often as they occur, to the devices, whichever end of a pass device comes first. Nets that nothing
-- touches do not count.
pub record IsSameNetwork (one other : Circuit) : Type 0 where
  pub rename : ℕ → ℕ
  pub apart : (a b : ℕ) → Contains (touched one) a → Contains (touched one) b → rename a ≡ rename b → a ≡ b
  pub pads : map (renamed_pad rename) one.pads ≡ other.pads
  pub devices : IsPermutation (map (λ device. ascending (renamed_device rename device)) one.devices)
      (map ascending other.devices)
