-- The group of a net, and what it is led to.
use Rattle.std.specs.Prelude.{◌≡◌, ◌≢◌, ℕ, ◌<◌, Bool, true, false, not, if◌then◌else◌, List, ◌++◌, Option, Some, None, length, slice_index_or}
use Rattle.switch_net.specs.Circuit.{Circuit}
use Rattle.switch_net.specs.Settling.{Values, fixed_level, Grouped, Source, IsPulledHigh}
use Rattle.switch_net.specs.LeastLevels.{Tells}
use Rattle.switch_net.specs.Ternary.{Levels, is_high, may_be_high}
use Rattle.switch_net.specs.Validity.{IsNetwork}
use Rattle.switch_net.specs.declared.network.Device.{Device}
use Rattle.switch_net.specs.declared.network.Device.TheVariants.{Pass, Load}
use Rattle.switch_net.specs.declared.network.Level.{Level}
use Rattle.switch_net.specs.declared.network.Level.TheVariants.{Low, High}
use Rattle.switch_sim.specs.Gating.{AreGates}
use Rattle.switch_sim.specs.Incidence.{IsIncidence}
use Rattle.switch_sim.specs.Simulation.{level_at}
use Rattle.switch_sim.specs.Nets.{AreFixed}
use Rattle.switch_sim.specs.Waiting.{Waits}
use Rattle.switch_sim.specs.declared.group.Conduct.{Conduct}
use Rattle.switch_sim.specs.declared.group.Conduct.TheVariants.{Sure, Possible}
use Rattle.switch_sim.specs.declared.group.Findings.{Findings}
use Rattle.switch_sim.specs.declared.group.Scene.{Scene}
use Rattle.switch_sim.specs.declared.group.Sight.{Sight}

-- a device whose gate has this level conducts
abbrev pub conducts : Conduct → Level → Bool
conducts Sure gate = is_high gate
conducts Possible gate = may_be_high gate

-- the devices whose gates are high, for sure or possibly
abbrev pub conducting : Conduct → Levels → Values
conducting conduct v net = conducts conduct (v net)

-- the parts are those of the network, with an entry for each net
pub record IsScene (scene : Scene) : Type 0 where
  pub valid : IsNetwork scene.network.now
  pub fixed : AreFixed scene.fixed.now scene.network.now.pads scene.drive.now
  pub chains : IsIncidence scene.network.now.devices scene.incidence.now
  pub last : length scene.incidence.now.last.items ≡ scene.network.now.nets
  pub gates : AreGates scene.network.now.devices scene.gates.now
  pub gates_last : length scene.gates.now.last.items ≡ scene.network.now.nets
  pub fixed_size : length scene.fixed.now ≡ scene.network.now.nets
  pub charges_size : length scene.charges.now ≡ scene.network.now.nets

-- and so with the levels
pub record IsSight (sight : Sight) : Type 0 where
  pub valid : IsNetwork sight.network.now
  pub chains : IsIncidence sight.network.now.devices sight.incidence.now
  pub last : length sight.incidence.now.last.items ≡ sight.network.now.nets
  pub fixed_size : length sight.fixed.now ≡ sight.network.now.nets
  pub charges_size : length sight.charges.now ≡ sight.network.now.nets
  pub levels_size : length sight.levels.now ≡ sight.network.now.nets
  pub fixed : AreFixed sight.fixed.now sight.network.now.pads sight.drive.now

-- what conducts
abbrev pub lit : Sight → Conduct → Values
lit sight conduct = conducting conduct (level_at sight.levels.now)

-- A net that a device leads to from the group is in the group, or it is a rail that was found.
pub record IsMet (sight : Sight) (group : List ℕ) (found : Findings) (net : ℕ) : Type 0 where
  pub free : fixed_level sight.network.now.pads sight.drive.now net ≡ None → Waits group net
  pub low : fixed_level sight.network.now.pads sight.drive.now net ≡ Some false → found.low ≡ true
  pub high : fixed_level sight.network.now.pads sight.drive.now net ≡ Some true → found.high ≡ true

-- What the device leads to from the net was found.
abbrev pub IsFollowed : Sight → Conduct → ℕ → List ℕ → Findings → Device → Type 0
IsFollowed sight conduct net group found (Load at) = at.0 ≡ net → found.high ≡ true
IsFollowed sight conduct net group found (Pass gate a b) = lit sight conduct gate.0 ≡ true
    → (a.0 ≡ net → IsMet sight group found b.0) × (b.0 ≡ net → IsMet sight group found a.0)

-- All that the net leads to was found, and its charge.
pub record IsVisited (sight : Sight) (conduct : Conduct) (group : List ℕ) (found : Findings) (net : ℕ) : Type 0 where
  pub devices : (d : ℕ) (x : Device) → d < length sight.network.now.devices
      → IsFollowed sight conduct net group found (slice_index_or sight.network.now.devices d x)
  pub not_low : level_at sight.charges.now net ≢ Low → found.not_low ≡ true
  pub not_high : level_at sight.charges.now net ≢ High → found.not_high ≡ true

-- a net of the group had another charge
pub record HasOther (sight : Sight) (conduct : Conduct) (start : ℕ) (level : Level) : Type 0 where
  pub at : ℕ
  pub grouped : Grouped sight.network.now sight.drive.now (lit sight conduct) start at
  pub other : level_at sight.charges.now at ≢ level

-- The nets are of the group of the first, and what was found is so.
pub record IsSound (sight : Sight) (conduct : Conduct) (start : ℕ) (group : List ℕ) (found : Findings) : Type 0 where
  pub grouped : (m : ℕ) → Waits group m → Grouped sight.network.now sight.drive.now (lit sight conduct) start m
  pub low : found.low ≡ true → Source sight.network.now sight.drive.now (lit sight conduct) false start
  pub high : found.high ≡ true → IsPulledHigh sight.network.now sight.drive.now (lit sight conduct) start
  pub not_low : found.not_low ≡ true → HasOther sight conduct start Low
  pub not_high : found.not_high ≡ true → HasOther sight conduct start High

-- More was found, with more nets behind the others.
pub record IsMore (group : List ℕ) (found : Findings) (group_new : List ℕ) (found_new : Findings) : Type 0 where
  pub more : List ℕ
  pub behind : group_new ≡ group ++ more
  pub low : found.low ≡ true → found_new.low ≡ true
  pub high : found.high ≡ true → found_new.high ≡ true
  pub not_low : found.not_low ≡ true → found_new.not_low ≡ true
  pub not_high : found.not_high ≡ true → found_new.not_high ≡ true

-- The device is one of the network.
pub record IsOf (sight : Sight) (device : Device) : Type 0 where
  pub at : ℕ
  pub within : at < length sight.network.now.devices
  pub is : slice_index_or sight.network.now.devices at device ≡ device

-- what was true stays so, from each net whose group has this one
abbrev pub StaysTrue : Sight → Conduct → ℕ → List ℕ → Findings → List ℕ → Findings → Type 0
StaysTrue sight conduct net group found group_new found_new = (start : ℕ) → Waits group net
    → IsSound sight conduct start group found → IsSound sight conduct start group_new found_new

-- The nets are the group, and all was found.
pub record IsExplored (sight : Sight) (conduct : Conduct) (start : ℕ) (group : List ℕ) (found : Findings) : Type 0 where
  pub begun : Waits group start
  pub sound : IsSound sight conduct start group found
  pub whole : (m : ℕ) → Waits group m → IsVisited sight conduct group found m

-- What a net is told by what its possible group and its sure group are led to, by the first of these that applies.
abbrev pub told_by : Findings → Findings → Option Bool
told_by possible certain =
    if certain.low then Some false
    else if possible.low then None
    else if certain.high then Some true
    else if possible.high then None
    else if not possible.not_low then Some false
    else if not possible.not_high then Some true
    else None

-- The net is told this level, or none where it is told none.
abbrev pub RightlyTold : Circuit → List Bool → List Level → List Level → ℕ → Option Bool → Type 0
RightlyTold circuit drives charges levels net (Some level) = Tells circuit drives (level_at charges) (level_at levels) net level
RightlyTold circuit drives charges levels net None = (level : Bool) → ¬ Tells circuit drives (level_at charges) (level_at levels) net level

abbrev pub IsRightlyTold : Sight → ℕ → Option Bool → Type 0
IsRightlyTold sight net told = RightlyTold sight.network.now sight.drive.now sight.charges.now sight.levels.now net told

-- what the net is told
abbrev pub told_at : List (Option Bool) → ℕ → Option Bool
told_at told net = slice_index_or told net None

-- the nets of the group that were seen are rightly told
abbrev pub AreRight : Sight → List ℕ → List Bool → List (Option Bool) → Type 0
AreRight sight group seen told = (net : ℕ) → Waits group net → slice_index_or seen net false ≡ true → IsRightlyTold sight net (told_at told net)
