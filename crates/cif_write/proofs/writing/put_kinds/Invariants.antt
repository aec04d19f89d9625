use Rattle.std.proofs.Common.{◌≤◌, take, length}
use Rattle.cif_write.specs.Gathered.{Gathers}
use Rattle.cif_write.specs.ChipText.{kinds_lines}
use Rattle.cif_write.proofs.writing.put_kinds.Given as goal

-- the definitions of the kinds so far are with the sink or wait
abbrev pub invariant-loop-before : goal.invariant-loop-before
invariant-loop-before g l = record {
  gathered : Gathers (g.K.Sink.held l.fn.sink) (g.K.Sink.held l.sink) l.fn.page l.page (kinds_lines 0 (take l.before l.kinds));
  count : g.K.Sink.faults l.fn.sink ≤ g.K.Sink.faults l.sink;
}
