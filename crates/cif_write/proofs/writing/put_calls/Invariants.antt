use Rattle.std.proofs.Common.{◌≤◌, take}
use Rattle.std.specs.List.{flat_map}
use Rattle.cif_write.specs.Gathered.{Gathers}
use Rattle.cif_write.specs.ChipText.{call_line}
use Rattle.cif_write.proofs.writing.put_calls.Given as goal

-- the lines of the calls so far are with the sink or wait
abbrev pub invariant-loop-call : goal.invariant-loop-call
invariant-loop-call g l = record {
  gathered : Gathers (g.K.Sink.held l.fn.sink) (g.K.Sink.held l.sink) l.fn.page l.page (flat_map call_line (take l.call-index l.calls));
  count : g.K.Sink.faults l.fn.sink ≤ g.K.Sink.faults l.sink;
}
