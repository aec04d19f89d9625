-- Ternary values of a switch network: what is low or high for sure, where charges or gates may be unknown (after Bryant's
-- switch-level model and the ternary simulation of Brzozowski and Yoeli).
use Rattle.std.specs.Prelude.{◌≡◌, ℕ, zero, suc, ◌<◌, Bool, true, false, List, [], ◌∷◌, Some, slice_get}
use Rattle.switch_net.specs.Circuit.{Circuit}
use Rattle.switch_net.specs.Settling.{Values, fixed_level, IsFree, IsPulledLow, IsPulledHigh, Grouped, Settled}
use Rattle.switch_net.specs.Clock.{drives_of, Run}
use Rattle.switch_net.specs.Validity.{IsNetwork}
use Rattle.switch_net.specs.declared.network.Level.{Level}
use Rattle.switch_net.specs.declared.network.Level.TheVariants.{Low, High, Unknown}

-- a level for every net
abbrev pub Levels : Type 0
Levels = ℕ → Level

-- the level of a value
abbrev pub level_of : Bool → Level
level_of false = Low
level_of true = High

abbrev pub is_high : Level → Bool
is_high High = true
is_high Low = false
is_high Unknown = false

abbrev pub may_be_high : Level → Bool
may_be_high High = true
may_be_high Low = false
may_be_high Unknown = true

-- the devices whose gates are high for sure conduct
abbrev pub sure : Levels → Values
sure v net = is_high (v net)

-- the devices whose gates may be high conduct
abbrev pub possible : Levels → Values
possible v net = may_be_high (v net)

-- Nothing can lead to the net's possible group, whose nets all had this level as charge.
pub record KeepsCharge (circuit : Circuit) (drives : List Bool) (q v : Levels) (net : ℕ) (level : Bool) : Type 0 where
  pub not_low : ¬ IsPulledLow circuit drives (possible v) net
  pub not_high : ¬ IsPulledHigh circuit drives (possible v) net
  pub charge : (m : ℕ) → Grouped circuit drives (possible v) net m → q m ≡ level_of level

-- Nothing can pull the net low, and something pulls it high for sure.
pub record RisesSurely (circuit : Circuit) (drives : List Bool) (v : Levels) (net : ℕ) : Type 0 where
  pub not_low : ¬ IsPulledLow circuit drives (possible v) net
  pub high : IsPulledHigh circuit drives (sure v) net

-- What a free net becomes in one update, by the charges q and the levels v before it.
pub record UpdatedAt (circuit : Circuit) (drives : List Bool) (q v w : Levels) (net : ℕ) : Type 0 where
  pub low : IsPulledLow circuit drives (sure v) net → w net ≡ Low
  pub high : RisesSurely circuit drives v net → w net ≡ High
  pub kept : (level : Bool) → KeepsCharge circuit drives q v net level → w net ≡ level_of level
  pub unknown : ¬ IsPulledLow circuit drives (sure v) net → ¬ RisesSurely circuit drives v net
      → ((level : Bool) → ¬ KeepsCharge circuit drives q v net level) → w net ≡ Unknown

-- the fixed nets are as they are driven
abbrev pub AreDriven : Circuit → List Bool → Levels → Type 0
AreDriven circuit drives v = (net : ℕ) (level : Bool) → net < circuit.nets → fixed_level circuit.pads drives net ≡ Some level → v net ≡ level_of level

-- The levels w are those after one update of all free nets at once.
pub record Updates (circuit : Circuit) (drives : List Bool) (q v w : Levels) : Type 0 where
  pub fixed : AreDriven circuit drives w
  pub free : (net : ℕ) → IsFree circuit drives net → UpdatedAt circuit drives q v w net

-- the levels before the first update: all free nets are unknown
pub record StartsUnknown (circuit : Circuit) (drives : List Bool) (v : Levels) : Type 0 where
  pub fixed : AreDriven circuit drives v
  pub free : (net : ℕ) → IsFree circuit drives net → v net ≡ Unknown

-- the levels after so many updates
abbrev pub AfterUpdates : Circuit → List Bool → Levels → ℕ → Levels → Type 0
AfterUpdates circuit drives q zero v = StartsUnknown circuit drives v
AfterUpdates circuit drives q (suc n) w = (v : Levels) × AfterUpdates circuit drives q n v × Updates circuit drives q v w

-- The levels to which the network settles from the charges q: those after one update more than there are nets.
abbrev pub SettledLevels : Circuit → List Bool → Levels → Levels → Type 0
SettledLevels circuit drives q v = AfterUpdates circuit drives q (suc circuit.nets) v

-- the levels to which the network settles in this phase of the clock
abbrev pub PhaseLevels : Circuit → Bool → List Bool → Bool → Bool → Levels → Levels → Type 0
PhaseLevels circuit reset lines phi1 phi2 q v =
    SettledLevels circuit (drives_of (record { phi1 = phi1; phi2 = phi2; reset = reset; lines = lines }) circuit.pads) q v

-- One clock on levels, with the phases of a clock on values.
pub record ClockLevels (circuit : Circuit) (reset : Bool) (lines : List Bool) (q v : Levels) : Type 0 where
  pub changed : Levels
  pub first : Levels
  pub between : Levels
  pub second : Levels
  pub settles : PhaseLevels circuit reset lines false false q changed
  pub phi1_high : PhaseLevels circuit reset lines true false changed first
  pub phi1_low : PhaseLevels circuit reset lines false false first between
  pub phi2_high : PhaseLevels circuit reset lines false true between second
  pub phi2_low : PhaseLevels circuit reset lines false false second v

-- One clock with the reset low for each vector of the word.
abbrev pub ClocksLevels : Circuit → Levels → List (List Bool) → List Levels → Type 0
ClocksLevels circuit q [] [] = Unit {0}
ClocksLevels circuit q [] (v ∷ vs) = ⊥
ClocksLevels circuit q (x ∷ u) [] = ⊥
ClocksLevels circuit q (x ∷ u) (v ∷ vs) = ClockLevels circuit false x q v × ClocksLevels circuit v u vs

-- The levels after the reset clock, which begins from the charges q with these lines, and after each further clock.
abbrev pub RunLevels : Circuit → Levels → List Bool → List (List Bool) → List Levels → Type 0
RunLevels circuit q lines u [] = ⊥
RunLevels circuit q lines u (v ∷ vs) = ClockLevels circuit true lines q v × ClocksLevels circuit v u vs

-- the charges of which nothing is known
abbrev pub nothing_known : Levels
nothing_known net = Unknown

-- A level that is low or high is the value of the net.
abbrev pub Covers : Circuit → Levels → Values → Type 0
Covers circuit levels values = (net : ℕ) (level : Bool) → net < circuit.nets → levels net ≡ level_of level → values net ≡ level

-- A low or high level of a ternary settling is the value in each settled assignment, from all charges that the levels cover.
abbrev pub SettledLevelsAreSure : Type 0
SettledLevelsAreSure = (circuit : Circuit) → IsNetwork circuit → (drives : List Bool) (p v : Levels) (q w : Values) → Covers circuit p q
    → SettledLevels circuit drives p v → Settled circuit drives q w → Covers circuit v w

-- A low or high level of a ternary run from charges of which nothing is known is the value in each run from all charges.
abbrev pub RunLevelsAreSure : Type 0
RunLevelsAreSure = (circuit : Circuit) → IsNetwork circuit → (q : Values) (lines : List Bool) (u : List (List Bool))
    (ls : List Levels) (vs : List Values)
    → RunLevels circuit nothing_known lines u ls → Run circuit q lines u vs
    → (t : ℕ) (l : Levels) (v : Values) → slice_get ls t ≡ Some l → slice_get vs t ≡ Some v → Covers circuit l v
