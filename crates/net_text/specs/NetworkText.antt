-- The text of a switch network: the version, the number of nets, one line for each pad and each device, and the end.
use Rattle.std.specs.Prelude.{◌≡◌, ◌≤◌, ℕ, true, List, [], ◌∷◌, ◌++◌, All, Option, Some, None, is_some, IfSome, codes}
use Rattle.std.specs.Fmt.{decimal}
use Rattle.std.specs.List.{flat_map}
use Rattle.rx_text.specs.Name.{is_name}
use Rattle.rx_text.specs.Role.{bears_name}
use Rattle.rx_text.specs.declared.pad_name.Role.{Role}
use Rattle.rx_text.specs.declared.pad_name.Role.TheVariants.{Vdd, Gnd, Phi1, Phi2, Reset, Input, Output}
use Rattle.switch_net.specs.Circuit.{Circuit}
use Rattle.switch_net.specs.Validity.{IsNetwork}
use Rattle.switch_net.specs.declared.network.Pad.{Pad}
use Rattle.switch_net.specs.declared.network.Device.{Device}
use Rattle.switch_net.specs.declared.network.Device.TheVariants.{Pass, Load}

-- a space and the number
abbrev pub number_part : ℕ → List ℕ
number_part n = 32 ∷ decimal n

-- the word of a role
abbrev pub role_word : Role → List ℕ
role_word Vdd = codes "vdd"
role_word Gnd = codes "gnd"
role_word Phi1 = codes "phi1"
role_word Phi2 = codes "phi2"
role_word Reset = codes "reset"
role_word Input = codes "in"
role_word Output = codes "out"

-- a space and the name, where the pad bears one
abbrev pub name_part : Option (List ℕ) → List ℕ
name_part None = []
name_part (Some name) = 32 ∷ name

-- `rxnet 1` and `nets N`
abbrev pub head_lines : ℕ → List ℕ
head_lines nets = codes "rxnet 1\nnets" ++ number_part nets ++ codes "\n"

-- `vdd K`, `in NAME K` and so on
abbrev pub pad_line : Pad → List ℕ
pad_line pad = role_word pad.name.role ++ name_part pad.name.name ++ number_part pad.net.0 ++ codes "\n"

-- `pass G A B` or `load K`
abbrev pub device_line : Device → List ℕ
device_line (Pass gate a b) = codes "pass" ++ number_part gate.0 ++ number_part a.0 ++ number_part b.0 ++ codes "\n"
device_line (Load net) = codes "load" ++ number_part net.0 ++ codes "\n"

-- The text of the network.
abbrev pub network_text : Circuit → List ℕ
network_text circuit =
    head_lines circuit.nets ++ flat_map pad_line circuit.pads ++ flat_map device_line circuit.devices ++ codes "end\n"

-- the pad bears a name exactly where its role has one, and it is a name of the specification language
abbrev pub IsNamed : Pad → Type 0
IsNamed pad = (bears_name pad.name.role ≡ is_some pad.name.name) × IfSome pad.name.name (λ name. is_name name ≡ true)

-- The bytes are the text of this circuit, whose pads bear names where their roles have them, with at most 16,777,216 nets.
pub record IsTextOf (bytes : List ℕ) (circuit : Circuit) : Type 0 where
  pub text : bytes ≡ network_text circuit
  pub named : All IsNamed circuit.pads
  pub few_nets : circuit.nets ≤ 16777216

-- The bytes are the text of this circuit, which is a network.
pub record IsNetworkText (bytes : List ℕ) (circuit : Circuit) : Type 0 where
  pub text_of : IsTextOf bytes circuit
  pub network : IsNetwork circuit

-- One text is the text of one network at most.
abbrev pub TextIsOfOneNetwork : Type 0
TextIsOfOneNetwork = (bytes : List ℕ) (a b : Circuit) → IsNetworkText bytes a → IsNetworkText bytes b → a ≡ b
