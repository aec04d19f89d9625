-- Laws of networks that are the same, and examples.
use Rattle.std.specs.Prelude.{◌≡◌, ℕ, List, [], ◌∷◌, ◌++◌, map, length, Contains, IsPermutation}
use Rattle.switch_net.specs.Circuit.{Circuit, touched, renamed_pad, renamed_device, IsSameNetwork}
use Rattle.switch_net.specs.Examples.{circuit_of, inverter, pass, load}
use Rattle.switch_net.specs.declared.network.Net.{Net}
use Rattle.switch_net.specs.declared.network.Device.{Device}
use Rattle.switch_net.specs.declared.network.Device.TheVariants.{Pass}

-- Each network is the same as itself.
abbrev pub SameIsReflexive : Type 0
SameIsReflexive = (circuit : Circuit) → IsSameNetwork circuit circuit

abbrev pub SameIsSymmetric : Type 0
SameIsSymmetric = (one other : Circuit) → IsSameNetwork one other → IsSameNetwork other one

abbrev pub SameIsTransitive : Type 0
SameIsTransitive = (one other third : Circuit) → IsSameNetwork one other → IsSameNetwork other third → IsSameNetwork one third

-- the circuit on renamed nets, of which there are so many
abbrev pub renamed : (ℕ → ℕ) → ℕ → Circuit → Circuit
renamed rename nets circuit = record {
  nets = nets;
  pads = map (renamed_pad rename) circuit.pads;
  devices = map (renamed_device rename) circuit.devices;
}

-- A renaming that keeps the touched nets apart gives the same network.
abbrev pub RenamedIsSame : Type 0
RenamedIsSame = (circuit : Circuit) (rename : ℕ → ℕ) (nets : ℕ)
    → ((a b : ℕ) → Contains (touched circuit) a → Contains (touched circuit) b → rename a ≡ rename b → a ≡ b)
    → IsSameNetwork circuit (renamed rename nets circuit)

-- The order of the devices is free.
abbrev pub PermutedIsSame : Type 0
PermutedIsSame = (circuit : Circuit) (devices : List Device) → IsPermutation circuit.devices devices
    → IsSameNetwork circuit (record circuit { devices = devices })

-- The ends of a pass device may be exchanged.
abbrev pub ExchangedIsSame : Type 0
ExchangedIsSame = (circuit : Circuit) (before after : List Device) (gate a b : Net)
    → circuit.devices ≡ before ++ Pass gate a b ∷ after
    → IsSameNetwork circuit (record circuit { devices = before ++ Pass gate b a ∷ after })

-- The same networks have as many pads and as many devices.
abbrev pub SameAsMany : Type 0
SameAsMany = (one other : Circuit) → IsSameNetwork one other
    → (length one.pads ≡ length other.pads) × (length one.devices ≡ length other.devices)

-- An inverter whose pull-down has another gate is not the same network.
abbrev pub OtherGateIsNotSame : Type 0
OtherGateIsNotSame = ¬ IsSameNetwork inverter (circuit_of 7 (pass 4 6 1 ∷ load 6 ∷ []))
