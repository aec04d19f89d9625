-- What is kept of each pad while toggles are counted.
use Rattle.std.specs.Prelude.{◌≡◌, ℕ, ◌+◌, if◌then◌else◌, List, Option, Some, None, option_map}
use Rattle.std.specs.Ordering.{nat_cmp}
use Rattle.std.specs.BTreeMap.{BTreeMap, get, keys}
use Rattle.switch_net.specs.declared.network.Level.{Level}
use Rattle.sim_probe.specs.declared.sample.Sample.{Sample}
use Rattle.sim_probe.specs.declared.toggles.Tally.{Tally}
use Rattle.sim_probe.specs.Levels.{levels_of, pads_of, last_of, is_same_level}
use Rattle.sim_probe.specs.TogglesText.{changes, toggles_line}

-- what is kept of these levels of a pad, if there are some
abbrev pub tally_of : List Level → Option Tally
tally_of levels = option_map (λ last. record { last = last; count = changes levels }) (last_of levels)

-- what is kept after one more level
abbrev pub next_tally : Option Tally → Level → Tally
next_tally None level = record { last = level; count = 0 }
next_tally (Some tally) level = record { last = level; count = tally.count + (if is_same_level tally.last level then 0 else 1) }

-- the map has this of each pad in the samples
pub record HasTallies (tallies : BTreeMap ℕ Tally) (samples : List Sample) : Type 0 where
  pub tallied : (pad : ℕ) → get nat_cmp tallies pad ≡ tally_of (levels_of pad samples)
  pub pads : keys tallies ≡ pads_of samples

-- the line of a pad
abbrev pub tally_line : ℕ × Tally → List ℕ
tally_line entry = toggles_line entry.0 entry.1.count
