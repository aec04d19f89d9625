-- Clocked logic: NOR gates of a load and pull-downs, and storage nodes behind clocked pass transistors. Ratioed nMOS
-- with two-phase clocks is built so (Mead and Conway, Introduction to VLSI Systems, 1980).
use Rattle.std.specs.Prelude.{◌≡◌, ◌↔◌, ◌⊎◌, ℕ, ◌<◌, ◌==◌, ◌&&◌, ◌||◌, not, Bool, true, false, List, [], ◌∷◌, Some, All, Contains, length, if◌then◌else◌}
use Rattle.rx_text.specs.declared.pad_name.Role.{Role}
use Rattle.rx_text.specs.declared.pad_name.Role.TheVariants.{Vdd, Gnd, Phi1, Phi2, Reset, Input, Output}
use Rattle.switch_net.specs.Circuit.{Circuit}
use Rattle.switch_net.specs.Settling.{Values, fixed_level, HasLoad, Settled}
use Rattle.switch_net.specs.declared.network.Net.{Net}
use Rattle.switch_net.specs.declared.network.Pad.{Pad}
use Rattle.switch_net.specs.declared.network.Device.{Device}
use Rattle.switch_net.specs.declared.network.Device.TheVariants.{Pass, Load}

-- What a net of clocked logic is: fixed by its pad, the output of a NOR gate, a storage node with its clock and source, or
-- isolated, as nothing leads to it.
pub data NetKind : Type 0 where
  fixed : NetKind
  gate : NetKind
  stored : ℕ → ℕ → NetKind
  isolated : NetKind

-- pads of all roles but the outputs fix their nets
abbrev pub fixes : Role → Bool
fixes Output = false
fixes Vdd = true
fixes Gnd = true
fixes Phi1 = true
fixes Phi2 = true
fixes Reset = true
fixes Input = true

-- a pad fixes the net
abbrev pub is_fixed : List Pad → ℕ → Bool
is_fixed [] net = false
is_fixed (pad ∷ pads) net = if pad.net.0 == net then fixes pad.name.role else is_fixed pads net

-- the first pad on this net is the one of ground
abbrev pub IsGround : List Pad → ℕ → Type 0
IsGround [] net = ⊥
IsGround (pad ∷ pads) net = ((pad.net.0 ≡ net) × (pad.name.role ≡ Gnd)) ⊎ ((pad.net.0 ≡ net → ⊥) × IsGround pads net)

-- A load stands at a gate's output. A pass device pulls a gate's output down to ground, or leads from a gate or
-- a fixed net to a storage node of that source and clock.
abbrev pub IsLogicDevice : ℕ → (ℕ → NetKind) → Device → Type 0
IsLogicDevice ground kind (Load net) = kind net.0 ≡ gate
IsLogicDevice ground kind (Pass input a b) =
    ((kind a.0 ≡ gate) × (b.0 ≡ ground))
    ⊎ ((kind b.0 ≡ stored input.0 a.0) × (kind input.0 ≡ fixed) × ((kind a.0 ≡ gate) ⊎ (kind a.0 ≡ fixed)))

-- every net that the device names is below this number
abbrev pub NamesBelow : ℕ → Device → Type 0
NamesBelow nets (Load net) = net.0 < nets
NamesBelow nets (Pass input a b) = (input.0 < nets) × (a.0 < nets) × (b.0 < nets)

-- The circuit is clocked logic with these kinds of nets.
pub record IsClockedLogic (circuit : Circuit) (ground : ℕ) (kind : ℕ → NetKind) : Type 0 where
  pub grounded : IsGround circuit.pads ground
  pub ground_below : ground < circuit.nets
  pub pads : (net : ℕ) → net < circuit.nets → (is_fixed circuit.pads net ≡ true) ↔ (kind net ≡ fixed)
  pub devices : All (IsLogicDevice ground kind) circuit.devices
  pub below : All (NamesBelow circuit.nets) circuit.devices
  pub loads : (net : ℕ) → net < circuit.nets → kind net ≡ gate → HasLoad circuit.devices net
  pub transfers : (net clock source : ℕ) → net < circuit.nets → kind net ≡ stored clock source
      → Contains circuit.devices (Pass (record { 0 = clock }) (record { 0 = source }) (record { 0 = net }))

-- a pull-down of the net conducts
abbrev pub pulls_down : ℕ → List Device → Values → ℕ → Bool
pulls_down ground [] v net = false
pulls_down ground (Load at ∷ devices) v net = pulls_down ground devices v net
pulls_down ground (Pass input a b ∷ devices) v net =
    (a.0 == net && b.0 == ground && v input.0) || pulls_down ground devices v net

-- The values are those of the logic: each gate is the NOR of the inputs that pull it down, a storage node follows its
-- source while its clock is high, and holds its charge while it is low, as an isolated net always does.
pub record FollowsLogic (circuit : Circuit) (ground : ℕ) (kind : ℕ → NetKind) (drives : List Bool) (q v : Values) : Type 0 where
  pub pads : (net : ℕ) (level : Bool) → net < circuit.nets → fixed_level circuit.pads drives net ≡ Some level → v net ≡ level
  pub gates : (net : ℕ) → net < circuit.nets → kind net ≡ gate → v net ≡ not (pulls_down ground circuit.devices v net)
  pub follows : (net clock source : ℕ) → net < circuit.nets → kind net ≡ stored clock source → v clock ≡ true → v net ≡ v source
  pub held : (net clock source : ℕ) → net < circuit.nets → kind net ≡ stored clock source → v clock ≡ false → v net ≡ q net
  pub isolated : (net : ℕ) → net < circuit.nets → kind net ≡ isolated → v net ≡ q net

-- The nets can be evaluated in the order of their numbers: an input of a gate stands before its output, and a source before a storage
-- node whose clock is high.
pub record IsEvaluationOrder (circuit : Circuit) (ground : ℕ) (kind : ℕ → NetKind) (drives : List Bool) (place : ℕ → ℕ) : Type 0 where
  pub inputs : (input a : Net) → Contains circuit.devices (Pass input a (record { 0 = ground })) → place input.0 < place a.0
  pub sources : (net clock source : ℕ) → net < circuit.nets → kind net ≡ stored clock source
      → fixed_level circuit.pads drives clock ≡ Some true → place source < place net

-- Settled values of clocked logic are those of the logic, whatever the charges.
abbrev pub SettlesAsLogic : Type 0
SettlesAsLogic = (circuit : Circuit) (ground : ℕ) (kind : ℕ → NetKind) → IsClockedLogic circuit ground kind
    → (drives : List Bool) → length drives ≡ length circuit.pads
    → (q v : Values) → Settled circuit drives q v ↔ FollowsLogic circuit ground kind drives q v

-- Clocked logic whose nets can be evaluated in an order settles from all charges.
abbrev pub LogicSettles : Type 0
LogicSettles = (circuit : Circuit) (ground : ℕ) (kind : ℕ → NetKind) → IsClockedLogic circuit ground kind
    → (drives : List Bool) → length drives ≡ length circuit.pads
    → (place : ℕ → ℕ) → IsEvaluationOrder circuit ground kind drives place
    → (q : Values) → (v : Values) × Settled circuit drives q v

-- Clocked logic whose nets can be evaluated in an order settles to one assignment only.
abbrev pub LogicIsDetermined : Type 0
LogicIsDetermined = (circuit : Circuit) (ground : ℕ) (kind : ℕ → NetKind) → IsClockedLogic circuit ground kind
    → (drives : List Bool) → length drives ≡ length circuit.pads
    → (place : ℕ → ℕ) → IsEvaluationOrder circuit ground kind drives place
    → (q v w : Values) → Settled circuit drives q v → Settled circuit drives q w
    → (net : ℕ) → net < circuit.nets → v net ≡ w net

-- Clocked logic whose nets can be evaluated in an order has values of its logic, from all charges.
abbrev pub LogicHasValues : Type 0
LogicHasValues = (circuit : Circuit) (ground : ℕ) (kind : ℕ → NetKind) → IsClockedLogic circuit ground kind
    → (drives : List Bool) → length drives ≡ length circuit.pads
    → (place : ℕ → ℕ) → IsEvaluationOrder circuit ground kind drives place
    → (q : Values) → (v : Values) × FollowsLogic circuit ground kind drives q v

-- Clocked logic whose nets can be evaluated in an order has one assignment of such values only.
abbrev pub LogicValuesAgree : Type 0
LogicValuesAgree = (circuit : Circuit) (ground : ℕ) (kind : ℕ → NetKind) → IsClockedLogic circuit ground kind
    → (drives : List Bool) → length drives ≡ length circuit.pads
    → (place : ℕ → ℕ) → IsEvaluationOrder circuit ground kind drives place
    → (q v w : Values) → FollowsLogic circuit ground kind drives q v → FollowsLogic circuit ground kind drives q w
    → (net : ℕ) → net < circuit.nets → v net ≡ w net
