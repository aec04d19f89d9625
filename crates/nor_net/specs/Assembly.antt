-- Circuits that are put together from parts, which meet at ports by the ports' names.
use Rattle.std.specs.Prelude.{◌≡◌, ◌↔◌, ℕ, ◌<◌, Bool, true, List, map, flat_map, All, Contains, IsPermutation}
use Rattle.std.specs.List.{range_with_len}
use Rattle.rx_text.specs.Role.{NamedRole}
use Rattle.switch_net.specs.Circuit.{Circuit, renamed_device, ascending, IsSameNetwork}
use Rattle.switch_net.specs.declared.network.Pad.{Pad}
use Rattle.switch_net.specs.declared.network.Device.{Device}
use Rattle.nor_net.specs.SwitchForm.{at}
use Rattle.nor_net.specs.Part.{PartTables, IsPart, part_devices}

-- a net of one of the parts
pub record PartNet : Type 0 where
  pub which : ℕ
  pub net : ℕ

abbrev pub part_net : ℕ → ℕ → PartNet
part_net which net = record { which = which; net = net }

-- one of the first n parts has the net
pub record IsPartNet (parts : ℕ → PartTables) (n : ℕ) (a : PartNet) : Type 0 where
  pub known : a.which < n
  pub below : a.net < (parts a.which).nets

-- the part of the net has a port of this name on it
abbrev pub HasPort : (ℕ → PartTables) → PartNet → ℕ → Type 0
HasPort parts a name = Contains (parts a.which).ports (record { name = name; net = a.net })

-- The nets of two parts meet: they have ports on them, of names that meet in these parts, by a test on a part, a name there, another
-- part and a name there.
pub record NetsMeet (parts : ℕ → PartTables) (n : ℕ) (meets : ℕ → ℕ → ℕ → ℕ → Bool) (a b : PartNet) : Type 0 where
  pub first : IsPartNet parts n a
  pub second : IsPartNet parts n b
  pub first_name : ℕ
  pub second_name : ℕ
  pub named : meets a.which first_name b.which second_name ≡ true
  pub first_port : HasPort parts a first_name
  pub second_port : HasPort parts b second_name

-- Nets that meet, one after another, lead from the first to the second.
pub data PartsJoin (parts : ℕ → PartTables) (n : ℕ) (meets : ℕ → ℕ → ℕ → ℕ → Bool) : PartNet → PartNet → Type 0 where
  same : (a : PartNet) → PartsJoin parts n meets a a
  on : (a b c : PartNet) → NetsMeet parts n meets a b → PartsJoin parts n meets b c → PartsJoin parts n meets a c
  back : (a b c : PartNet) → NetsMeet parts n meets b a → PartsJoin parts n meets b c → PartsJoin parts n meets a c

-- a pad that stands on a net of a part
pub record PartPad : Type 0 where
  pub name : NamedRole
  pub net : PartNet

-- the pad on a net of the circuit
abbrev pub pad_by : (PartNet → ℕ) → PartPad → Pad
pad_by home pad = record { name = pad.name; net = at (home pad.net) }

-- the devices of the part with this number, on nets of the circuit
abbrev pub devices_by : (ℕ → PartTables) → (PartNet → ℕ) → ℕ → List Device
devices_by parts home k = map (renamed_device (λ net. home (part_net k net))) (part_devices (parts k))

-- the devices of the first n parts, on nets of the circuit
abbrev pub assembled_devices : (ℕ → PartTables) → ℕ → (PartNet → ℕ) → List Device
assembled_devices parts n home = flat_map (devices_by parts home) (range_with_len 0 n)

-- The circuit is the first n parts with these pads. Nets of parts are one net of it exactly where meetings lead from the one to
-- the other. Its devices are those of all parts, whatever their order and whichever end of a pass device comes first.
pub record IsAssembly (parts : ℕ → PartTables) (n : ℕ) (meets : ℕ → ℕ → ℕ → ℕ → Bool) (pads : List PartPad) (circuit : Circuit) : Type 0 where
  pub home : PartNet → ℕ
  pub below : (a : PartNet) → IsPartNet parts n a → home a < circuit.nets
  pub joined : (a b : PartNet) → IsPartNet parts n a → IsPartNet parts n b → (home a ≡ home b) ↔ PartsJoin parts n meets a b
  pub pads_stand : map (pad_by home) pads ≡ circuit.pads
  pub devices : IsPermutation (map ascending (assembled_devices parts n home)) (map ascending circuit.devices)

-- Two circuits of the same parts, meetings and pads are the same network.
abbrev pub AssembliesAreSame : Type 0
AssembliesAreSame = (parts : ℕ → PartTables) (n : ℕ) (meets : ℕ → ℕ → ℕ → ℕ → Bool) (pads : List PartPad) (one other : Circuit)
    → ((k : ℕ) → k < n → IsPart (parts k)) → All (λ pad. IsPartNet parts n pad.net) pads
    → IsAssembly parts n meets pads one → IsAssembly parts n meets pads other → IsSameNetwork one other
