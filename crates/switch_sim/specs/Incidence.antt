-- The devices at each net, as chains from the last to the first.
use Rattle.std.specs.Prelude.{◌≡◌, ◌⊎◌, ℕ, suc, ◌<◌, ◌≤◌, List, length, slice_index_or}
use Rattle.switch_net.specs.declared.network.Device.{Device}
use Rattle.switch_net.specs.declared.network.Device.TheVariants.{Pass, Load}
use Rattle.switch_sim.specs.declared.incidence.Earlier.{Earlier}
use Rattle.switch_sim.specs.declared.incidence.Incidence.{Incidence}

-- the net at one end of the device, or that of the load
abbrev pub one_end : Device → ℕ
one_end (Load net) = net.0
one_end (Pass gate a b) = a.0

-- the net at the other end of the device, or that of the load
abbrev pub other_end : Device → ℕ
other_end (Load net) = net.0
other_end (Pass gate a b) = b.0

-- the net is an end of the pass device, or the net of the load
abbrev pub EndsAt : Device → ℕ → Type 0
EndsAt device net = (one_end device ≡ net) ⊎ (other_end device ≡ net)

-- Of so many devices, those at the net are below the bound; and the bound is 0 or the number behind one of them.
pub record IsLeastAbove (devices : List Device) (count net bound : ℕ) : Type 0 where
  pub most : bound ≤ count
  pub above : (d : ℕ) (x : Device) → d < count → EndsAt (slice_index_or devices d x) net → d < bound
  pub at : (d : ℕ) (x : Device) → bound ≡ suc d → EndsAt (slice_index_or devices d x) net

-- for each net the number behind the last of so many devices at it
abbrev pub AreLast : List Device → ℕ → List ℕ → Type 0
AreLast devices count last = (net : ℕ) → net < length last → IsLeastAbove devices count net (slice_index_or last net 0)

-- for each end of so many devices the number behind the one before it at that net
abbrev pub AreEarlier : List Device → ℕ → List Earlier → Type 0
AreEarlier devices count earlier = (d : ℕ) (x : Device) (e : Earlier) → d < count
    → IsLeastAbove devices d (one_end (slice_index_or devices d x)) (slice_index_or earlier d e).at_one
    × IsLeastAbove devices d (other_end (slice_index_or devices d x)) (slice_index_or earlier d e).at_other

-- each device is in the chains of exactly the nets at its ends
pub record IsIncidence (devices : List Device) (incidence : Incidence) : Type 0 where
  pub size : length incidence.earlier.items ≡ length devices
  pub last : AreLast devices (length devices) incidence.last.items
  pub earlier : AreEarlier devices (length devices) incidence.earlier.items
