-- The devices that each net gates, as chains from the last to the first.
use Rattle.std.specs.Prelude.{◌≡◌, ℕ, suc, ◌<◌, ◌≤◌, List, length, slice_index_or}
use Rattle.switch_net.specs.declared.network.Device.{Device}
use Rattle.switch_net.specs.declared.network.Device.TheVariants.{Pass, Load}
use Rattle.switch_sim.specs.declared.gates.Gates.{Gates}

-- the net is the gate of the device
abbrev pub IsGatedBy : Device → ℕ → Type 0
IsGatedBy (Load at) net = ⊥
IsGatedBy (Pass gate a b) net = gate.0 ≡ net

-- Of so many devices, those that the net gates are below the bound; and the bound is 0 or the number behind one of them.
pub record IsLeastGated (devices : List Device) (count net bound : ℕ) : Type 0 where
  pub most : bound ≤ count
  pub above : (d : ℕ) (x : Device) → d < count → IsGatedBy (slice_index_or devices d x) net → d < bound
  pub at : (d : ℕ) (x : Device) → bound ≡ suc d → IsGatedBy (slice_index_or devices d x) net

-- for each net the number behind the last of so many devices that it gates
abbrev pub AreLastGated : List Device → ℕ → List ℕ → Type 0
AreLastGated devices count last = (net : ℕ) → net < length last → IsLeastGated devices count net (slice_index_or last net 0)

-- for each of so many devices the number behind the one before it with the same gate
abbrev pub AreEarlierGated : List Device → ℕ → List ℕ → Type 0
AreEarlierGated devices count earlier = (d : ℕ) (x : Device) (net : ℕ) → d < count → IsGatedBy (slice_index_or devices d x) net
    → IsLeastGated devices d net (slice_index_or earlier d 0)

-- each device is in the chain of exactly the net that gates it
pub record AreGates (devices : List Device) (gates : Gates) : Type 0 where
  pub size : length gates.earlier.items ≡ length devices
  pub last : AreLastGated devices (length devices) gates.last.items
  pub earlier : AreEarlierGated devices (length devices) gates.earlier.items
