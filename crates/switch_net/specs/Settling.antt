-- When values of the nets are settled: the switch-level rule of nMOS, in which a path to ground beats every load.
-- A value is 0 or 1 for each net; charges are the values that nets held before.
use Rattle.std.specs.Prelude.{◌≡◌, ℕ, ◌<◌, ◌⊎◌, ◌==◌, Bool, true, false, List, [], ◌∷◌, Option, Some, None, if◌then◌else◌}
use Rattle.rx_text.specs.declared.pad_name.Role.{Role}
use Rattle.rx_text.specs.declared.pad_name.Role.TheVariants.{Vdd, Gnd, Phi1, Phi2, Reset, Input, Output}
use Rattle.switch_net.specs.Circuit.{Circuit}
use Rattle.switch_net.specs.declared.network.Pad.{Pad}
use Rattle.switch_net.specs.declared.network.Device.{Device}
use Rattle.switch_net.specs.declared.network.Device.TheVariants.{Pass, Load}

-- 0 or 1 for every net
abbrev pub Values : Type 0
Values = ℕ → Bool

-- What a pad of this role fixes its net to, where it is driven so; an output fixes nothing.
abbrev pub pad_level : Role → Bool → Option Bool
pad_level Vdd drive = Some true
pad_level Gnd drive = Some false
pad_level Phi1 drive = Some drive
pad_level Phi2 drive = Some drive
pad_level Reset drive = Some drive
pad_level Input drive = Some drive
pad_level Output drive = None

-- What the net is fixed to by its pad, if it is fixed. There is one drive for each pad, in order.
abbrev pub fixed_level : List Pad → List Bool → ℕ → Option Bool
fixed_level [] drives net = None
fixed_level (pad ∷ pads) [] net = None
fixed_level (pad ∷ pads) (drive ∷ drives) net =
    if pad.net.0 == net then pad_level pad.name.role drive else fixed_level pads drives net

-- A pass device whose gate is high joins the two nets.
abbrev pub Joins : List Device → Values → ℕ → ℕ → Type 0
Joins [] v a b = ⊥
Joins (Pass gate x y ∷ devices) v a b =
    ((v gate.0 ≡ true) × (((x.0 ≡ a) × (y.0 ≡ b)) ⊎ ((y.0 ≡ a) × (x.0 ≡ b)))) ⊎ Joins devices v a b
Joins (Load net ∷ devices) v a b = Joins devices v a b

-- The net has a load.
abbrev pub HasLoad : List Device → ℕ → Type 0
HasLoad [] a = ⊥
HasLoad (Pass gate x y ∷ devices) a = HasLoad devices a
HasLoad (Load net ∷ devices) a = (net.0 ≡ a) ⊎ HasLoad devices a

-- No pad fixes the net.
abbrev pub IsFree : Circuit → List Bool → ℕ → Type 0
IsFree circuit drives net = (net < circuit.nets) × (fixed_level circuit.pads drives net ≡ None)

-- The second net is in the group of the first: conducting devices lead to it through free nets alone.
pub data Grouped (circuit : Circuit) (drives : List Bool) (v : Values) : ℕ → ℕ → Type 0 where
  here : (a : ℕ) → Grouped circuit drives v a a
  step : (a b c : ℕ) → Joins circuit.devices v a b → IsFree circuit drives b → Grouped circuit drives v b c → Grouped circuit drives v a c

-- A conducting device leads from the group of the net to a net that is fixed at this level.
pub record Source (circuit : Circuit) (drives : List Bool) (v : Values) (level : Bool) (net : ℕ) : Type 0 where
  pub from : ℕ
  pub to : ℕ
  pub grouped : Grouped circuit drives v net from
  pub joined : Joins circuit.devices v from to
  pub fixed : fixed_level circuit.pads drives to ≡ Some level

-- A net of the group has a load.
pub record Loaded (circuit : Circuit) (drives : List Bool) (v : Values) (net : ℕ) : Type 0 where
  pub at : ℕ
  pub grouped : Grouped circuit drives v net at
  pub load : HasLoad circuit.devices at

-- The group is led to ground, or to another net that is fixed low.
abbrev pub IsPulledLow : Circuit → List Bool → Values → ℕ → Type 0
IsPulledLow circuit drives v net = Source circuit drives v false net

-- The group is led to a net that is fixed high, or has a load.
abbrev pub IsPulledHigh : Circuit → List Bool → Values → ℕ → Type 0
IsPulledHigh circuit drives v net = Source circuit drives v true net ⊎ Loaded circuit drives v net

-- All nets of the group had this level as charge.
abbrev pub HadCharge : Circuit → List Bool → Values → Values → ℕ → Bool → Type 0
HadCharge circuit drives q v net level = (m : ℕ) → Grouped circuit drives v net m → q m ≡ level

-- What a free net is, by the first of these that applies to its group.
pub record SettledAt (circuit : Circuit) (drives : List Bool) (q v : Values) (net : ℕ) : Type 0 where
  pub low : IsPulledLow circuit drives v net → v net ≡ false
  pub high : ¬ IsPulledLow circuit drives v net → IsPulledHigh circuit drives v net → v net ≡ true
  pub kept : ¬ IsPulledLow circuit drives v net → ¬ IsPulledHigh circuit drives v net
      → (level : Bool) → HadCharge circuit drives q v net level → v net ≡ level
  pub alike : ¬ IsPulledLow circuit drives v net → ¬ IsPulledHigh circuit drives v net
      → (m : ℕ) → Grouped circuit drives v net m → v m ≡ v net

-- The values v are settled from the charges q while the pads are driven so.
pub record Settled (circuit : Circuit) (drives : List Bool) (q v : Values) : Type 0 where
  pub fixed : (net : ℕ) (level : Bool) → net < circuit.nets → fixed_level circuit.pads drives net ≡ Some level → v net ≡ level
  pub free : (net : ℕ) → IsFree circuit drives net → SettledAt circuit drives q v net
