use Rattle.std.proofs.Common.{◌≤◌, All, take}
use Rattle.std.specs.List.{flat_map}
use Rattle.net_text.specs.Gathered.{Gathers}
use Rattle.net_text.specs.NetworkText.{pad_line, IsNamed}
use Rattle.net_text.proofs.writing.put_pads.Given as goal

-- the lines of the pads so far are with the sink or wait, and these pads are named
abbrev pub invariant-loop-pad : goal.invariant-loop-pad
invariant-loop-pad g l = record {
  gathered : Gathers (g.K.Sink.held l.fn.sink) (g.K.Sink.held l.sink) l.fn.page l.page (flat_map pad_line (take l.pad-index l.pads));
  named : All IsNamed (take l.pad-index l.pads);
  count : g.K.Sink.faults l.fn.sink ≤ g.K.Sink.faults l.sink;
}
