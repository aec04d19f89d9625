-- What a step of the reader read.
use Rattle.std.specs.Prelude.{⊤, ◌≡◌, ℕ, ◌+◌, ◌<◌, ◌≤◌, Bool, true, false, List, [], ◌∷◌, ◌++◌, All, Option, Some, None, is_some, option_map, IfSome, length, take, codes}
use Rattle.std.specs.List.{flat_map}
use Rattle.std.specs.Option.{option_or}
use Rattle.rx_text.specs.Name.{is_name}
use Rattle.rx_text.specs.Role.{NamedRole, bears_name}
use Rattle.rx_text.specs.declared.pad_name.Role.{Role}
use Rattle.switch_net.specs.ClockedLogic.{NamesBelow}
use Rattle.switch_net.specs.declared.network.Pad.{Pad}
use Rattle.switch_net.specs.declared.network.Device.{Device}
use Rattle.rx_text.specs.declared.place.Place.TheVariants.{Text}
use Rattle.switch_net.specs.Validity.{first_repeat, first_missing}
use Rattle.net_text.specs.declared.net_fault.NetCode.{NetCode}
use Rattle.net_text.specs.declared.net_fault.NetCode.TheVariants.{N3, N4}
use Rattle.net_text.specs.NetRefusals.{NoCodeStands}
use Rattle.net_text.specs.Stages.{DueAt, LinesDue, IsFirst}
use Rattle.net_text.specs.declared.reading.Stop.{Stop}
use Rattle.net_text.specs.declared.reading.Stop.TheVariants as stop
use Rattle.net_text.specs.declared.net_fault.NetFault.{NetFault}
use Rattle.net_text.specs.NetworkText.{role_word, name_part, head_lines, pad_line, device_line, IsNamed}
use Rattle.net_text.specs.Reading.{line_word}
use Rattle.net_text.specs.declared.line_kind.LineKind.{LineKind}

-- From one place of the text to another these bytes stand.
pub record Reads (text : List ℕ) (at next : ℕ) (bytes : List ℕ) : Type 0 where
  pub front : take next text ≡ take at text ++ bytes
  pub further : next ≡ at + length bytes
  pub within : next ≤ length text

-- the name of a pad stands there, if its role has one, and the space before its net
pub record ReadsName (text : List ℕ) (at next : ℕ) (role : Role) (name : NamedRole) : Type 0 where
  pub rest : List ℕ
  pub reads : Reads text at next rest
  pub spelled : role_word role ++ codes " " ++ rest ≡ role_word name.role ++ name_part name.name ++ codes " "
  pub bears : bears_name name.role ≡ is_some name.name
  pub valid : IfSome name.name (λ bytes. is_name bytes ≡ true)

-- the rest of a pad's line stands there, behind the word of its role
pub record ReadsPad (text : List ℕ) (at next : ℕ) (role : Role) (nets : ℕ) (pad : Pad) : Type 0 where
  pub rest : List ℕ
  pub reads : Reads text at next rest
  pub line : role_word role ++ codes " " ++ rest ≡ pad_line pad
  pub named : IsNamed pad
  pub below : pad.net.0 < nets

-- the rest of a device's line stands there, behind its word
pub record ReadsDevice (text : List ℕ) (at next : ℕ) (kind : LineKind) (nets : ℕ) (device : Device) : Type 0 where
  pub rest : List ℕ
  pub reads : Reads text at next rest
  pub line : line_word kind ++ rest ≡ device_line device
  pub below : NamesBelow nets device

-- no device stands there yet
abbrev pub no_devices : List Device → Bool
no_devices [] = true
no_devices (device ∷ devices) = false

-- Up to this place the text is the head and the lines of these pads and devices, whose nets are in range, and more lines are due.
pub record ReadTo (text : List ℕ) (nets : ℕ) (pads : List Pad) (devices : List Device) (at : ℕ) : Type 0 where
  pub front : take at text ≡ head_lines nets ++ flat_map pad_line pads ++ flat_map device_line devices
  pub within : at ≤ length text
  pub few_parts : length pads + length devices + 2 ≤ at
  pub few_nets : nets ≤ 16777216
  pub named : All IsNamed pads
  pub pads_below : All (λ pad. pad.net.0 < nets) pads
  pub devices_below : All (NamesBelow nets) devices
  pub due : DueAt nets text at (LinesDue (no_devices devices))

-- The text is the head, these lines, and the line `end`, and no code stands in it.
pub record IsRead (text : List ℕ) (nets : ℕ) (pads : List Pad) (devices : List Device) : Type 0 where
  pub before : ℕ
  pub parts : ReadTo text nets pads devices before
  pub whole : text ≡ take before text ++ codes "end\n"
  pub clear : NoCodeStands text

-- one more line, which ends at the place, or is the last one
abbrev pub ReadLine : List ℕ → ℕ → List Pad → List Device → ℕ → Option ℕ → Type 0
ReadLine text nets pads devices at None = IsRead text nets pads devices
ReadLine text nets pads devices at (Some next) = ReadTo text nets pads devices next × (at < next)

-- a fault at the first byte of this line
abbrev pub fault_in_line : NetCode → ℕ → NetFault
fault_in_line code line = record { code = code; place = Text line 1 }

-- the fault of pads whose nets are all in range, where this is the last line: the first that repeats another, else a missing role
abbrev pub fault_of_pads : List Pad → ℕ → Option NetFault
fault_of_pads pads last =
    option_or (option_map (λ at. fault_in_line N3 (at + 3)) (first_repeat [] pads))
    (option_map (λ role. fault_in_line N4 last) (first_missing pads))

-- where reading stopped at a fault, it is the first in the text
abbrev pub StopsFirst : List ℕ → Stop → Type 0
StopsFirst text stop.NoMemory = ⊤
StopsFirst text (stop.Fault fault) = IsFirst text fault
