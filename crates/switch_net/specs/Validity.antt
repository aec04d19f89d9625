-- When pads and devices make a network, and the first fault where they do not.
use Rattle.std.specs.Prelude.{◌≡◌, ◌≢◌, ◌↔◌, ℕ, ◌+◌, ◌<◌, ◌==◌, nat_le, Bool, ◌&&◌, ◌||◌, not, if◌then◌else◌, List, [], ◌∷◌, ◌++◌, length, All, AllPairs, Any, find, position, Option, Some, None, option_map}
use Rattle.std.specs.List.{list_any}
use Rattle.std.specs.Option.{option_eq, option_or}
use Rattle.std.specs.Str.{bytes_eq}
use Rattle.rx_text.specs.Role.{NamedRole}
use Rattle.rx_text.specs.declared.pad_name.Role.{Role}
use Rattle.rx_text.specs.declared.pad_name.Role.TheVariants.{Vdd, Gnd, Phi1, Phi2, Reset, Input, Output}
use Rattle.switch_net.specs.Circuit.{Circuit}
use Rattle.switch_net.specs.ClockedLogic.{NamesBelow}
use Rattle.switch_net.specs.declared.network.Pad.{Pad}
use Rattle.switch_net.specs.declared.network.Device.{Device}
use Rattle.switch_net.specs.declared.network.Device.TheVariants.{Pass, Load}
use Rattle.switch_net.specs.declared.network.BadNetwork.{BadNetwork}
use Rattle.switch_net.specs.declared.network.BadNetwork.TheVariants.{NetOutOfRange, DoublePad, MissingPad}

-- the two pads differ in name and in net
abbrev pub AreDistinct : Pad → Pad → Type 0
AreDistinct a b = (a.name ≢ b.name) × (a.net ≢ b.net)

-- some pad has this role
abbrev pub HasRole : List Pad → Role → Type 0
HasRole pads role = Any (λ pad. pad.name.role ≡ role) pads

-- Every net that a part names is below the number of nets, no two pads share a name or a net, and the supplies, the
-- clocks and the reset have pads.
pub record IsNetwork (circuit : Circuit) : Type 0 where
  pub pads_below : All (λ pad. pad.net.0 < circuit.nets) circuit.pads
  pub devices_below : All (NamesBelow circuit.nets) circuit.devices
  pub distinct : AllPairs AreDistinct circuit.pads
  pub vdd : HasRole circuit.pads Vdd
  pub gnd : HasRole circuit.pads Gnd
  pub phi1 : HasRole circuit.pads Phi1
  pub phi2 : HasRole circuit.pads Phi2
  pub reset : HasRole circuit.pads Reset

-- the pad's net is not below the number of nets
abbrev pub is_pad_outside : ℕ → Pad → Bool
is_pad_outside nets pad = nat_le nets pad.net.0

-- the device names a net that is not below the number of nets
abbrev pub is_device_outside : ℕ → Device → Bool
is_device_outside nets (Pass gate a b) = nat_le nets gate.0 || nat_le nets a.0 || nat_le nets b.0
is_device_outside nets (Load net) = nat_le nets net.0

-- the number of the first part that names a net not below the number of nets, pads counted first and then devices
abbrev pub first_outside : ℕ → List Pad → List Device → Option ℕ
first_outside nets pads devices =
    option_or (position (is_pad_outside nets) pads)
    (option_map (λ at. length pads + at) (position (is_device_outside nets) devices))

-- the roles by number
abbrev pub role_number : Role → ℕ
role_number Vdd = 0
role_number Gnd = 1
role_number Phi1 = 2
role_number Phi2 = 3
role_number Reset = 4
role_number Input = 5
role_number Output = 6

abbrev pub is_same_role : Role → Role → Bool
is_same_role a b = role_number a == role_number b

abbrev pub is_same_name : NamedRole → NamedRole → Bool
is_same_name a b = is_same_role a.role b.role && option_eq bytes_eq a.name b.name

-- the two pads have one name or one net
abbrev pub shares : Pad → Pad → Bool
shares one other = is_same_name one.name other.name || one.net.0 == other.net.0

-- the pad shares its name or its net with one of these
abbrev pub repeats : List Pad → Pad → Bool
repeats earlier pad = list_any (λ one. shares one pad) earlier

-- the number of the first of the pads that repeats an earlier one, where these stand before them
abbrev pub first_repeat : List Pad → List Pad → Option ℕ
first_repeat earlier [] = None
first_repeat earlier (pad ∷ pads) =
    if repeats earlier pad then Some (length earlier) else first_repeat (earlier ++ pad ∷ []) pads

-- some pad has this role
abbrev pub has_role : List Pad → Role → Bool
has_role pads role = list_any (λ pad. is_same_role pad.name.role role) pads

-- the first of the roles that a network needs for which there is no pad
abbrev pub first_missing : List Pad → Option Role
first_missing pads = find (λ role. not (has_role pads role)) (Vdd ∷ Gnd ∷ Phi1 ∷ Phi2 ∷ Reset ∷ [])

-- why these pads and devices are no network: nets first, then pads that repeat others, then roles without a pad
abbrev pub first_fault : ℕ → List Pad → List Device → Option BadNetwork
first_fault nets pads devices =
    option_or (option_map (λ at. NetOutOfRange at) (first_outside nets pads devices))
    (option_or (option_map (λ at. DoublePad at) (first_repeat [] pads))
    (option_map (λ role. MissingPad role) (first_missing pads)))

-- Pads and devices have no fault exactly where they are a network.
abbrev pub FaultlessIsNetwork : Type 0
FaultlessIsNetwork = (circuit : Circuit) → IsNetwork circuit ↔ (first_fault circuit.nets circuit.pads circuit.devices ≡ None)
