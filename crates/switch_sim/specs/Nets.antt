-- What a simulation holds of each net.
use Rattle.std.specs.Prelude.{◌≡◌, ℕ, Bool, List, Option, Some, None, length, slice_index_or}
use Rattle.switch_net.specs.Circuit.{Circuit}
use Rattle.switch_net.specs.Settling.{fixed_level}
use Rattle.switch_net.specs.Ternary.{level_of}
use Rattle.switch_net.specs.declared.network.Level.{Level}
use Rattle.switch_net.specs.declared.network.Level.TheVariants.{Unknown}
use Rattle.switch_net.specs.declared.network.Pad.{Pad}
use Rattle.switch_sim.specs.declared.settling.Nets.{Nets}
use Rattle.switch_sim.specs.Gating.{AreGates}
use Rattle.switch_sim.specs.Incidence.{IsIncidence}
use Rattle.switch_sim.specs.Rooms.{HaveRoom}

-- what the net is fixed to
abbrev pub fixed_at : List (Option Bool) → ℕ → Option Bool
fixed_at fixed net = slice_index_or fixed net None

-- there is one entry for each net, the devices are chained at their nets and gates, and all nets can wait
pub record IsSized (circuit : Circuit) (nets : Nets) : Type 0 where
  pub fixed : length nets.fixed.items ≡ circuit.nets
  pub charges : length nets.charges.items ≡ circuit.nets
  pub levels : length nets.levels.items ≡ circuit.nets
  pub told : length nets.told.items ≡ circuit.nets
  pub seen : length nets.seen.items ≡ circuit.nets
  pub watch : length nets.watch.items ≡ circuit.nets
  pub chains : IsIncidence circuit.devices nets.incidence
  pub last : length nets.incidence.last.items ≡ circuit.nets
  pub gates : AreGates circuit.devices nets.gates
  pub gates_last : length nets.gates.last.items ≡ circuit.nets
  pub lists : HaveRoom circuit.nets nets.lists

-- the level of a net before any is told
abbrev pub first_level : Option Bool → Level
first_level (Some level) = level_of level
first_level None = Unknown

-- the list holds what the pads fix the nets to, while they are driven so
abbrev pub AreFixed : List (Option Bool) → List Pad → List Bool → Type 0
AreFixed fixed pads drives = (net : ℕ) → fixed_at fixed net ≡ fixed_level pads drives net
