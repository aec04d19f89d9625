use Rattle.std.proofs.Common.{◌≡◌, ◌++◌, flat_map, take}
use Rattle.switch_net.specs.Circuit.{device_nets}
use Rattle.switch_sim.proofs.names.push_devices.Given as goal

abbrev pub invariant-loop-device : goal.invariant-loop-device
invariant-loop-device l = l.nets.items ≡ l.fn.nets.items ++ flat_map device_nets (take l.device-index l.devices)
