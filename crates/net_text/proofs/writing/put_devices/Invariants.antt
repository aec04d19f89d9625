use Rattle.std.proofs.Common.{◌≤◌, take}
use Rattle.std.specs.List.{flat_map}
use Rattle.net_text.specs.Gathered.{Gathers}
use Rattle.net_text.specs.NetworkText.{device_line}
use Rattle.net_text.proofs.writing.put_devices.Given as goal

-- the lines of the devices so far are with the sink or wait
abbrev pub invariant-loop-device : goal.invariant-loop-device
invariant-loop-device g l = record {
  gathered : Gathers (g.K.Sink.held l.fn.sink) (g.K.Sink.held l.sink) l.fn.page l.page (flat_map device_line (take l.device-index l.devices));
  count : g.K.Sink.faults l.fn.sink ≤ g.K.Sink.faults l.sink;
}
