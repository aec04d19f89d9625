-- What a simulation keeps.
use Rattle.std.specs.Prelude.{◌≡◌, ℕ, Bool, List, length}
use Rattle.switch_net.specs.Circuit.{Circuit}
use Rattle.switch_net.specs.SameNetworks.{renamed}
use Rattle.switch_sim.specs.declared.settling.Nets.{Nets}
use Rattle.switch_sim.specs.Naming.{number, AreNames}
use Rattle.switch_sim.specs.Nets.{IsSized}

-- the names are those of the network, the parts those of the network in which they have their numbers, and there is a drive for
-- each pad
pub record IsSimulation (circuit : Circuit) (names : List ℕ) (numbered : Circuit) (nets : Nets) (drive : List Bool) : Type 0 where
  pub named : AreNames circuit names
  pub same : numbered ≡ renamed (number names) (length names) circuit
  pub sized : IsSized numbered nets
  pub driven : length drive ≡ length circuit.pads
