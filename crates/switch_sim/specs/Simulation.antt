-- A simulation as contracts see it.
use Rattle.std.specs.Prelude.{List, slice_index_or}
use Rattle.switch_net.specs.Circuit.{Circuit}
use Rattle.switch_net.specs.Ternary.{Levels}
use Rattle.switch_net.specs.declared.network.Level.{Level}
use Rattle.switch_net.specs.declared.network.Level.TheVariants.{Unknown}

-- the network, and the levels of its nets
pub record Simulation : Type 0 where
  pub circuit : Circuit
  pub levels : List Level

-- the level of the net
abbrev pub level_at : List Level → Levels
level_at levels net = slice_index_or levels net Unknown
