-- The nets that are due, and what they are due for.
use Rattle.std.specs.Prelude.{◌≡◌, ◌≢◌, ◌⊎◌, ℕ, ◌<◌, Bool, true, false, List, Some, length, slice_index_or}
use Rattle.switch_net.specs.Circuit.{Circuit}
use Rattle.switch_net.specs.Settling.{Values, fixed_level, Joins, IsFree, Grouped}
use Rattle.switch_net.specs.Ternary.{possible}
use Rattle.switch_net.specs.declared.network.Device.{Device}
use Rattle.switch_net.specs.declared.network.Level.{Level}
use Rattle.switch_net.specs.declared.network.Level.TheVariants.{Low}
use Rattle.switch_sim.specs.Gating.{IsGatedBy}
use Rattle.switch_sim.specs.Incidence.{one_end, other_end}
use Rattle.switch_sim.specs.Simulation.{level_at}
use Rattle.switch_sim.specs.ToldLevels.{IsToldNothing}
use Rattle.switch_sim.specs.Waiting.{Waits}

-- A conducting device leads from the net to one that is fixed low.
pub record LeadsLow (circuit : Circuit) (drives : List Bool) (v : Values) (net : ℕ) : Type 0 where
  pub to : ℕ
  pub joined : Joins circuit.devices v net to
  pub fixed : fixed_level circuit.pads drives to ≡ Some false

-- The gate of a device was told low, the device led from this end to a net that is fixed low, and another may do so still: of the
-- groups of this end nothing is told by this.
pub record IsHeld (circuit : Circuit) (drives : List Bool) (levels : List Level) (gate end other : ℕ) : Type 0 where
  pub low : level_at levels gate ≡ Low
  pub led : fixed_level circuit.pads drives other ≡ Some false
  pub still : LeadsLow circuit drives (possible (level_at levels)) end

-- A net is due where it was not seen since a gate at it was told. This end of a device whose gate was told is due, or it is held.
abbrev pub IsWoken : Circuit → List Bool → List Level → List Bool → ℕ → ℕ → ℕ → Type 0
IsWoken circuit drives levels seen gate end other = (slice_index_or seen end false ≡ false) ⊎ IsHeld circuit drives levels gate end other

-- So are both ends of each device that the net gates.
abbrev pub AreWoken : Circuit → List Bool → List Level → List Bool → ℕ → Type 0
AreWoken circuit drives levels seen net = (d : ℕ) (x : Device) → d < length circuit.devices → IsGatedBy (slice_index_or circuit.devices d x) net
    → IsWoken circuit drives levels seen net (one_end (slice_index_or circuit.devices d x)) (other_end (slice_index_or circuit.devices d x))
    × IsWoken circuit drives levels seen net (other_end (slice_index_or circuit.devices d x)) (one_end (slice_index_or circuit.devices d x))

-- So are the ends of all devices whose gates were told.
abbrev pub AllAreWoken : Circuit → List Bool → List Level → List Level → List Bool → Type 0
AllAreWoken circuit drives levels levels_new seen = (net : ℕ) → level_at levels_new net ≢ level_at levels net
    → AreWoken circuit drives levels_new seen net

-- More nets are due, and those wait.
pub record Wakes (seen : List Bool) (next : List ℕ) (seen_new : List Bool) (next_new : List ℕ) : Type 0 where
  pub only : (net : ℕ) → slice_index_or seen_new net false ≡ true → slice_index_or seen net false ≡ true
  pub listed : (net : ℕ) → slice_index_or seen_new net false ≡ false → (slice_index_or seen net false ≡ false) ⊎ Waits next_new net
  pub kept : (net : ℕ) → Waits next net → Waits next_new net

-- All nets that waited in one of two lists but this one do so still.
abbrev pub Remain : List ℕ → List ℕ → List ℕ → List ℕ → ℕ → Type 0
Remain now next now_new next_new taken = (net : ℕ) → Waits now net ⊎ Waits next net → (taken ≡ net) ⊎ (Waits now_new net ⊎ Waits next_new net)

-- Each free net that is due waits.
abbrev pub AreListed : Circuit → List Bool → List Bool → List ℕ → List ℕ → Type 0
AreListed circuit drives seen now next = (net : ℕ) → IsFree circuit drives net → slice_index_or seen net false ≡ false
    → Waits now net ⊎ Waits next net

-- No net of the net's possible group is due.
abbrev pub IsQuiet : Circuit → List Bool → List Level → List Bool → ℕ → Type 0
IsQuiet circuit drives levels seen net = (other : ℕ) → IsFree circuit drives other → slice_index_or seen other false ≡ false
    → ¬ Grouped circuit drives (possible (level_at levels)) net other

-- A free net in whose possible group none is due is known, or an update tells it nothing.
abbrev pub AreHandled : Circuit → List Bool → List Level → List Level → List Bool → Type 0
AreHandled circuit drives charges levels seen = (net : ℕ) → IsFree circuit drives net → IsQuiet circuit drives levels seen net
    → IsToldNothing circuit drives charges levels net
