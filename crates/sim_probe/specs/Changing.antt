-- What is kept while the lines of changes are written.
use Rattle.std.specs.Prelude.{◌≡◌, ℕ, ◌++◌, List}
use Rattle.std.specs.Ordering.{nat_cmp}
use Rattle.std.specs.BTreeMap.{BTreeMap, get, keys}
use Rattle.switch_net.specs.declared.network.Level.{Level}
use Rattle.sim_probe.specs.declared.sample.Sample.{Sample}
use Rattle.sim_probe.specs.declared.waves.Changes.{Changes}
use Rattle.sim_probe.specs.Levels.{levels_of, pads_of, last_of, last_clock}
use Rattle.sim_probe.specs.WavesText.{change_lines}

-- the map has the last level of each pad in the samples
pub record HasLasts (lasts : BTreeMap ℕ Level) (samples : List Sample) : Type 0 where
  pub levels : (pad : ℕ) → get nat_cmp lasts pad ≡ last_of (levels_of pad samples)
  pub pads : keys lasts ≡ pads_of samples

-- these samples were told, and what is written of them and those behind is the whole
pub record Follows (changes : Changes) (before : List Sample) : Type 0 where
  pub lasts : HasLasts changes.lasts before
  pub clock : changes.clock ≡ last_clock before

-- the lines so far, and those of the samples behind these
abbrev pub all_lines : Changes → List Sample → List Sample → List ℕ
all_lines changes before more = changes.lines.items ++ change_lines before changes.timed more
