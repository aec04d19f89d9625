use Rattle.std.proofs.Common.{◌≡◌, map, take}
use Rattle.switch_net.specs.Circuit.{renamed_device}
use Rattle.switch_sim.specs.Naming.{number}
use Rattle.switch_sim.proofs.names.numbered_devices.Given as goal

abbrev pub invariant-loop-device : goal.invariant-loop-device
invariant-loop-device l = l.numbered.items ≡ map (renamed_device (number l.names)) (take l.device-index l.devices)
