-- Small circuits, and what settling and a clock make of them.
use Rattle.std.specs.Prelude.{◌≡◌, ◌≢◌, ◌↔◌, ℕ, Bool, true, false, not, ◌||◌, List, [], ◌∷◌, map, codes}
use Rattle.rx_text.specs.Role.{NamedRole}
use Rattle.rx_text.specs.declared.pad_name.Role.TheVariants.{Vdd, Gnd, Phi1, Phi2, Reset, Input, Output}
use Rattle.switch_net.specs.Circuit.{Circuit}
use Rattle.switch_net.specs.Settling.{Values, HasLoad, Settled}
use Rattle.switch_net.specs.Clock.{Drive, first_bit, drives_of, Clock, Run}
use Rattle.switch_net.specs.Recognition.{plain_pad, named_pad}
use Rattle.switch_net.specs.declared.network.Net.{Net}
use Rattle.switch_net.specs.declared.network.Pad.{Pad}
use Rattle.switch_net.specs.declared.network.Device.{Device}
use Rattle.switch_net.specs.declared.network.Device.TheVariants.{Pass, Load}

-- ---- circuits of one input and one output

-- the net of this number
abbrev pub net_at : ℕ → Net
net_at net = record { 0 = net }

abbrev pub pad_at : NamedRole → ℕ → Pad
pad_at name net = record { name = name; net = net_at net }

abbrev pub pass : ℕ → ℕ → ℕ → Device
pass gate a b = Pass (net_at gate) (net_at a) (net_at b)

abbrev pub load : ℕ → Device
load net = Load (net_at net)

-- VDD, GND, PHI1, PHI2, RESET, the input x and the output z are the nets from 0 to 6
abbrev pub pads : List Pad
pads =
    pad_at (plain_pad Vdd) 0 ∷ pad_at (plain_pad Gnd) 1 ∷ pad_at (plain_pad Phi1) 2 ∷ pad_at (plain_pad Phi2) 3
    ∷ pad_at (plain_pad Reset) 4 ∷ pad_at (named_pad Input (codes "x")) 5 ∷ pad_at (named_pad Output (codes "z")) 6 ∷ []

-- these devices on so many nets
abbrev pub circuit_of : ℕ → List Device → Circuit
circuit_of nets devices = record { nets = nets; pads = pads; devices = devices }

-- the values settle from the charges under this drive
abbrev pub Settles : Circuit → Drive → Values → Values → Type 0
Settles circuit drive q v = Settled circuit (drives_of drive pads) q v

-- the fixed nets have the levels that their pads give them
pub record HasPadLevels (drive : Drive) (v : Values) : Type 0 where
  pub vdd : v 0 ≡ true
  pub gnd : v 1 ≡ false
  pub phi1 : v 2 ≡ drive.phi1
  pub phi2 : v 3 ≡ drive.phi2
  pub reset : v 4 ≡ drive.reset
  pub line : v 5 ≡ first_bit drive.lines

-- ---- ground, loads and charges

-- z is pulled down by x, and has a load
abbrev pub inverter : Circuit
inverter = circuit_of 7 (pass 5 6 1 ∷ load 6 ∷ [])

-- The inverter's settled values are one assignment for each drive, whatever the charges: z is the inverse of x.
abbrev pub InverterInverts : Type 0
InverterInverts = (drive : Drive) (q v : Values)
    → Settles inverter drive q v ↔ (HasPadLevels drive v × (v 6 ≡ not (v 5)))

abbrev pub InverterSettles : Type 0
InverterSettles = (drive : Drive) (q : Values) → (v : Values) × Settles inverter drive q v

-- A net that is led to ground is low although it has a load.
abbrev pub GroundBeatsLoad : Type 0
GroundBeatsLoad = (drive : Drive) (q v : Values) → Settles inverter drive q v → v 5 ≡ true
    → HasLoad inverter.devices 6 × (v 6 ≡ false)

-- x leads to z while the reset is high
abbrev pub sampler : Circuit
sampler = circuit_of 7 (pass 4 5 6 ∷ [])

-- A net that nothing leads to keeps its charge.
abbrev pub SamplerHolds : Type 0
SamplerHolds = (drive : Drive) (q v : Values)
    → Settles sampler drive q v
    ↔ (HasPadLevels drive v × (v 4 ≡ true → v 6 ≡ v 5) × (v 4 ≡ false → v 6 ≡ q 6))

-- the gate is ground, so the device never conducts
abbrev pub open_circuit : Circuit
open_circuit = circuit_of 7 (pass 1 5 6 ∷ [])

abbrev pub OpenCircuitHolds : Type 0
OpenCircuitHolds = (drive : Drive) (q v : Values)
    → Settles open_circuit drive q v ↔ (HasPadLevels drive v × (v 6 ≡ q 6))

-- x joins z to a further net
abbrev pub shared_charge : Circuit
shared_charge = circuit_of 8 (pass 5 6 7 ∷ [])

-- Joined nets have one value, which is their charge where their charges agree. Apart, each keeps its own.
abbrev pub ChargeIsShared : Type 0
ChargeIsShared = (drive : Drive) (q v : Values)
    → Settles shared_charge drive q v
    ↔ (HasPadLevels drive v
    × (v 5 ≡ true → (v 6 ≡ v 7) × (q 6 ≡ q 7 → v 6 ≡ q 6))
    × (v 5 ≡ false → (v 6 ≡ q 6) × (v 7 ≡ q 7)))

-- Where the charges differ, the joined nets may settle to either level.
abbrev pub SharedChargeIsFree : Type 0
SharedChargeIsFree = (drive : Drive) (q : Values) → first_bit drive.lines ≡ true → q 6 ≢ q 7
    → (level : Bool) → (v : Values) × Settles shared_charge drive q v × (v 6 ≡ level) × (v 7 ≡ level)

-- x joins z and a further net to VDD, and z to ground
abbrev pub split_by_supply : Circuit
split_by_supply = circuit_of 8 (pass 5 6 0 ∷ pass 5 0 7 ∷ pass 5 6 1 ∷ [])

-- A fixed net parts what it joins: ground pulls z low, and not the net beyond VDD.
abbrev pub FixedNetBlocks : Type 0
FixedNetBlocks = (drive : Drive) (q v : Values)
    → Settles split_by_supply drive q v
    ↔ (HasPadLevels drive v
    × (v 5 ≡ true → (v 6 ≡ false) × (v 7 ≡ true))
    × (v 5 ≡ false → (v 6 ≡ q 6) × (v 7 ≡ q 7)))

-- ---- a register

-- The NOR of x and the reset at net 6 goes through PHI1 to net 7, and is inverted to net 8, which goes through PHI2
-- to net 9.
abbrev pub register : Circuit
register =
    circuit_of 10 (pass 5 6 1 ∷ pass 4 6 1 ∷ load 6 ∷ pass 2 6 7 ∷ pass 7 8 1 ∷ load 8 ∷ pass 3 8 9 ∷ [])

-- After a clock the register holds x, or 1 where the reset was high, whatever the charges were.
abbrev pub RegisterStores : Type 0
RegisterStores = (reset : Bool) (lines : List Bool) (q v : Values) → Clock register reset lines q v
    → v 9 ≡ (first_bit lines || reset)

-- It runs over each word from all charges.
abbrev pub RegisterRuns : Type 0
RegisterRuns = (q : Values) (lines : List Bool) (u : List (List Bool)) → (vs : List Values) × Run register q lines u vs

-- In a run it holds 1 after the reset clock, and after each further clock the bit of that clock's vector.
abbrev pub RegisterFollows : Type 0
RegisterFollows = (q : Values) (lines : List Bool) (u : List (List Bool)) (vs : List Values) → Run register q lines u vs
    → map (λ v. v 9) vs ≡ true ∷ map first_bit u
