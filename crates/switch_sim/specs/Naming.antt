-- The nets that a network names, by their numbers from 0 on, and the levels of all nets by those of the named ones.
use Rattle.std.specs.Prelude.{ℕ, zero, suc, ◌<◌, ◌==◌, List, [], ◌∷◌, Option, Some, None, option_map, length, Contains, slice_index_or, if◌then◌else◌}
use Rattle.switch_net.specs.Circuit.{Circuit, touched}
use Rattle.switch_net.specs.declared.network.Level.{Level}
use Rattle.switch_net.specs.declared.network.Level.TheVariants.{Unknown}
use Rattle.switch_sim.specs.Simulation.{level_at}

-- the place of the net among the names
abbrev pub place : List ℕ → ℕ → Option ℕ
place [] net = None
place (name ∷ names) net = if name == net then Some 0 else option_map (λ at. suc at) (place names net)

abbrev pub place_or_zero : Option ℕ → ℕ
place_or_zero None = 0
place_or_zero (Some at) = at

-- the number of the net: its place among the names, and 0 where it is none
abbrev pub number : List ℕ → ℕ → ℕ
number names net = place_or_zero (place names net)

abbrev pub AreRising : List ℕ → Type 0
AreRising names = (i j : ℕ) → i < j → j < length names → slice_index_or names i 0 < slice_index_or names j 0

-- The names are the nets that the circuit touches, each once, in ascending order.
pub record AreNames (circuit : Circuit) (names : List ℕ) : Type 0 where
  pub rising : AreRising names
  pub all : (net : ℕ) → Contains (touched circuit) net → Contains names net
  pub only : (net : ℕ) → Contains names net → Contains (touched circuit) net

-- the level at a place, unknown where there is none
abbrev pub level_by : List Level → Option ℕ → Level
level_by levels None = Unknown
level_by levels (Some at) = level_at levels at

-- the levels of so many nets from this one on, by those of the named ones
abbrev pub levels_from : List ℕ → List Level → ℕ → ℕ → List Level
levels_from names levels net zero = []
levels_from names levels net (suc count) = level_by levels (place names net) ∷ levels_from names levels (suc net) count
