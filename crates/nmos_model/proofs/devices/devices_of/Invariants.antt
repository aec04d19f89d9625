use Rattle.std.proofs.Common.{take}
use Rattle.nmos_model.specs.Devices.{AreDevices}
use Rattle.nmos_model.proofs.devices.devices_of.Given as goal

abbrev pub invariant-loop-at : goal.invariant-loop-at
invariant-loop-at g l = AreDevices (g.N.SiteNets.net l.nets) l.vdd (take l.at l.channels) l.devices.items
