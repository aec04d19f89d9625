-- Laws of settled values, of clocks and of runs, for all circuits.
use Rattle.std.specs.Prelude.{◌≡◌, ◌↔◌, ◌⊎◌, ℕ, ◌+◌, ◌<◌, Bool, List, [], ◌∷◌, ◌++◌, Some, length}
use Rattle.switch_net.specs.Circuit.{Circuit}
use Rattle.switch_net.specs.Settling.{Values, fixed_level, IsFree, Grouped, IsPulledLow, IsPulledHigh, Settled}
use Rattle.switch_net.specs.Clock.{Drive, drives_of, Clocks, Run}
use Rattle.switch_net.specs.declared.network.Pad.{Pad}

-- ---- settled values

-- A net that a pad fixes has the level that the pad is driven to.
abbrev pub FixedNetsAreDriven : Type 0
FixedNetsAreDriven = (circuit : Circuit) (drives : List Bool) (q v : Values) → Settled circuit drives q v
    → (net : ℕ) (level : Bool) → net < circuit.nets → fixed_level circuit.pads drives net ≡ Some level → v net ≡ level

-- A group has one value throughout.
abbrev pub GroupsAreAlike : Type 0
GroupsAreAlike = (circuit : Circuit) (drives : List Bool) (q v : Values) → Settled circuit drives q v
    → (net m : ℕ) → IsFree circuit drives net → Grouped circuit drives v net m → v m ≡ v net

-- every free net is pulled low or high
abbrev pub ArePulled : Circuit → List Bool → Values → Type 0
ArePulled circuit drives v = (net : ℕ) → IsFree circuit drives net
    → IsPulledLow circuit drives v net ⊎ IsPulledHigh circuit drives v net

-- Where every free net is pulled, the charges do not matter.
abbrev pub PulledValuesForgetCharges : Type 0
PulledValuesForgetCharges = (circuit : Circuit) (drives : List Bool) (q r v : Values) → ArePulled circuit drives v
    → Settled circuit drives q v → Settled circuit drives r v

-- ---- drives, clocks and runs

-- There is one drive for each pad.
abbrev pub PadsHaveDrives : Type 0
PadsHaveDrives = (drive : Drive) (pads : List Pad) → length (drives_of drive pads) ≡ length pads

-- the values after the last clock, or those before the first
abbrev pub last_values : Values → List Values → Values
last_values q [] = q
last_values q (v ∷ vs) = last_values v vs

-- clocks over two words, the second from the values that the first leaves
pub record SplitClocks (circuit : Circuit) (q : Values) (u w : List (List Bool)) (vs : List Values) : Type 0 where
  pub first : List Values
  pub second : List Values
  pub whole : vs ≡ first ++ second
  pub before : Clocks circuit q u first
  pub after : Clocks circuit (last_values q first) w second

-- Clocks over a word are split at each place, and what follows depends on what was before by its last values alone.
abbrev pub ClocksSplit : Type 0
ClocksSplit = (circuit : Circuit) (q : Values) (u w : List (List Bool)) (vs : List Values)
    → Clocks circuit q (u ++ w) vs ↔ SplitClocks circuit q u w vs

-- a run over a word, and clocks over a second word from the values that it leaves
pub record SplitRun (circuit : Circuit) (q : Values) (lines : List Bool) (u w : List (List Bool)) (vs : List Values) : Type 0 where
  pub first : List Values
  pub second : List Values
  pub whole : vs ≡ first ++ second
  pub before : Run circuit q lines u first
  pub after : Clocks circuit (last_values q first) w second

abbrev pub RunsSplit : Type 0
RunsSplit = (circuit : Circuit) (q : Values) (lines : List Bool) (u w : List (List Bool)) (vs : List Values)
    → Run circuit q lines (u ++ w) vs ↔ SplitRun circuit q lines u w vs

-- There are values after each vector of the word.
abbrev pub ClocksHaveValues : Type 0
ClocksHaveValues = (circuit : Circuit) (q : Values) (u : List (List Bool)) (vs : List Values)
    → Clocks circuit q u vs → length vs ≡ length u

-- A run has values after the reset clock and after each vector of the word.
abbrev pub RunsHaveValues : Type 0
RunsHaveValues = (circuit : Circuit) (q : Values) (lines : List Bool) (u : List (List Bool)) (vs : List Values)
    → Run circuit q lines u vs → length vs ≡ length u + 1
