use Rattle.std.proofs.Common.{◌≤◌, take}
use Rattle.std.specs.List.{flat_map}
use Rattle.cif_write.specs.Gathered.{Gathers}
use Rattle.cif_write.specs.ChipText.{label_line}
use Rattle.cif_write.proofs.writing.put_labels.Given as goal

-- the lines of the labels so far are with the sink or wait
abbrev pub invariant-loop-label : goal.invariant-loop-label
invariant-loop-label g l = record {
  gathered : Gathers (g.K.Sink.held l.fn.sink) (g.K.Sink.held l.sink) l.fn.page l.page (flat_map label_line (take l.label-index l.labels));
  count : g.K.Sink.faults l.fn.sink ≤ g.K.Sink.faults l.sink;
}
