use Rattle.std.proofs.Common.{◌≡◌, map, take}
use Rattle.switch_net.specs.Circuit.{renamed_pad}
use Rattle.switch_sim.specs.Naming.{number}
use Rattle.switch_sim.proofs.names.numbered_pads.Given as goal

abbrev pub invariant-loop-pad : goal.invariant-loop-pad
invariant-loop-pad l = l.numbered.items ≡ map (renamed_pad (number l.names)) (take l.pad-index l.pads)
