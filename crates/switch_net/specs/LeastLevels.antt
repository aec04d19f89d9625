-- Levels in the order of what they tell, and the levels that a ternary settling reaches: the least that an update keeps.
use Rattle.std.specs.Prelude.{◌≡◌, ◌≢◌, ℕ, ◌<◌, ◌≤◌, Bool, true, false, List, [], ◌∷◌}
use Rattle.switch_net.specs.Circuit.{Circuit}
use Rattle.switch_net.specs.Settling.{IsFree, IsPulledLow}
use Rattle.switch_net.specs.Ternary.{Levels, level_of, sure, KeepsCharge, RisesSurely, Updates, StartsUnknown, AfterUpdates, SettledLevels, ClockLevels, ClocksLevels, RunLevels}
use Rattle.switch_net.specs.declared.network.Level.TheVariants.{Unknown}
use Rattle.switch_net.specs.Validity.{IsNetwork}

-- Each net that is low or high in the first levels is so in the second.
abbrev pub IsRefinedBy : Circuit → Levels → Levels → Type 0
IsRefinedBy circuit v w = (net : ℕ) (level : Bool) → net < circuit.nets → v net ≡ level_of level → w net ≡ level_of level

-- The levels are the same on the nets of the circuit.
abbrev pub HaveSameLevels : Circuit → Levels → Levels → Type 0
HaveSameLevels circuit v w = (net : ℕ) → net < circuit.nets → v net ≡ w net

-- two lists of levels are the same on the nets of the circuit, one after another
abbrev pub AllHaveSameLevels : Circuit → List Levels → List Levels → Type 0
AllHaveSameLevels circuit [] [] = Unit {0}
AllHaveSameLevels circuit [] (w ∷ ws) = ⊥
AllHaveSameLevels circuit (v ∷ vs) [] = ⊥
AllHaveSameLevels circuit (v ∷ vs) (w ∷ ws) = HaveSameLevels circuit v w × AllHaveSameLevels circuit vs ws

-- Why an update of these levels tells a net that it is low or high.
pub data Tells (circuit : Circuit) (drives : List Bool) (q v : Levels) (net : ℕ) : Bool → Type 0 where
  pulled_low : IsPulledLow circuit drives (sure v) net → Tells circuit drives q v net false
  rises : RisesSurely circuit drives v net → Tells circuit drives q v net true
  keeps : (level : Bool) → KeepsCharge circuit drives q v net level → Tells circuit drives q v net level

-- The second levels are the first but at one free net, which is told its level by levels that were told before.
pub record TellsOne (circuit : Circuit) (drives : List Bool) (q v w : Levels) : Type 0 where
  pub net : ℕ
  pub level : Bool
  pub seen : Levels
  pub free : IsFree circuit drives net
  pub before : IsRefinedBy circuit seen v
  pub tells : Tells circuit drives q seen net level
  pub told : w net ≡ level_of level
  pub others : (m : ℕ) → m < circuit.nets → m ≢ net → w m ≡ v m

-- Nets are told one after another, from unknown levels to these.
pub data AreToldByOnes (circuit : Circuit) (drives : List Bool) (q : Levels) : Levels → Type 0 where
  unknown : (v : Levels) → StartsUnknown circuit drives v → AreToldByOnes circuit drives q v
  one_more : (v w : Levels) → AreToldByOnes circuit drives q v → TellsOne circuit drives q v w → AreToldByOnes circuit drives q w

-- No free net that is unknown is told a level.
abbrev pub NoneIsTold : Circuit → List Bool → Levels → Levels → Type 0
NoneIsTold circuit drives q v = (net : ℕ) (level : Bool) → IsFree circuit drives net → v net ≡ Unknown → ¬ Tells circuit drives q v net level

-- ---- the order of updates

-- An update of levels that tell more, from charges that tell more, tells more.
abbrev pub UpdatesAreMonotone : Type 0
UpdatesAreMonotone = (circuit : Circuit) → IsNetwork circuit → (drives : List Bool) (p q v w x y : Levels)
    → IsRefinedBy circuit p q → IsRefinedBy circuit v w → Updates circuit drives p v x → Updates circuit drives q w y → IsRefinedBy circuit x y

-- From unknown levels on, later updates only tell more.
abbrev pub UpdatesOnlyTell : Type 0
UpdatesOnlyTell = (circuit : Circuit) → IsNetwork circuit → (drives : List Bool) (q v w : Levels) (m n : ℕ) → m ≤ n
    → AfterUpdates circuit drives q m v → AfterUpdates circuit drives q n w → IsRefinedBy circuit v w

-- After as many updates as there are nets, one more keeps the levels.
abbrev pub UpdatesEnd : Type 0
UpdatesEnd = (circuit : Circuit) → IsNetwork circuit → (drives : List Bool) (q v : Levels) (n : ℕ) → circuit.nets ≤ n
    → AfterUpdates circuit drives q n v → Updates circuit drives q v v

-- An update keeps the settled levels, and all other levels that an update keeps tell as much.
abbrev pub SettledLevelsAreLeast : Type 0
SettledLevelsAreLeast = (circuit : Circuit) → IsNetwork circuit → (drives : List Bool) (q v : Levels) → SettledLevels circuit drives q v
    → Updates circuit drives q v v × ((w : Levels) → Updates circuit drives q w w → IsRefinedBy circuit v w)

-- Nets may be told one by one, in any order and by levels that are not the newest: where no further one is told, the levels are the
-- settled ones.
abbrev pub AnyOrderSettles : Type 0
AnyOrderSettles = (circuit : Circuit) → IsNetwork circuit → (drives : List Bool) (q v : Levels) → AreToldByOnes circuit drives q v
    → NoneIsTold circuit drives q v → SettledLevels circuit drives q v

-- Levels that are the settled ones on the nets of the circuit are settled too.
abbrev pub SettledLevelsAlike : Type 0
SettledLevelsAlike = (circuit : Circuit) → IsNetwork circuit → (drives : List Bool) (q v w : Levels) → HaveSameLevels circuit v w
    → SettledLevels circuit drives q v → SettledLevels circuit drives q w

-- ---- settlings, clocks and runs: each exists, and is one on the nets of the circuit

abbrev pub SettledLevelsExist : Type 0
SettledLevelsExist = (circuit : Circuit) → IsNetwork circuit → (drives : List Bool) (q : Levels)
    → (v : Levels) × SettledLevels circuit drives q v

abbrev pub SettledLevelsAreOne : Type 0
SettledLevelsAreOne = (circuit : Circuit) → IsNetwork circuit → (drives : List Bool) (p q v w : Levels) → HaveSameLevels circuit p q
    → SettledLevels circuit drives p v → SettledLevels circuit drives q w → HaveSameLevels circuit v w

abbrev pub ClockLevelsExist : Type 0
ClockLevelsExist = (circuit : Circuit) → IsNetwork circuit → (reset : Bool) (lines : List Bool) (q : Levels)
    → (v : Levels) × ClockLevels circuit reset lines q v

abbrev pub ClocksLevelsExist : Type 0
ClocksLevelsExist = (circuit : Circuit) → IsNetwork circuit → (q : Levels) (u : List (List Bool))
    → (vs : List Levels) × ClocksLevels circuit q u vs

abbrev pub RunLevelsExist : Type 0
RunLevelsExist = (circuit : Circuit) → IsNetwork circuit → (q : Levels) (lines : List Bool) (u : List (List Bool))
    → (vs : List Levels) × RunLevels circuit q lines u vs

abbrev pub RunLevelsAreOne : Type 0
RunLevelsAreOne = (circuit : Circuit) → IsNetwork circuit → (p q : Levels) (lines : List Bool) (u : List (List Bool)) (vs ws : List Levels)
    → HaveSameLevels circuit p q → RunLevels circuit p lines u vs → RunLevels circuit q lines u ws → AllHaveSameLevels circuit vs ws
