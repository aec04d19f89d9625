use Rattle.std.proofs.Common.{◌≡◌, ◌≤◌, take, None}
use Rattle.cif_write.specs.Gathered.{Gathers}
use Rattle.cif_write.specs.ChipText.{box_lines}
use Rattle.cif_write.proofs.BoxLines.{layer_behind}
use Rattle.cif_write.proofs.writing.put_boxes.Given as goal

-- the lines of the boxes so far are with the sink or wait, and the layer is that of the last one
abbrev pub invariant-loop-b : goal.invariant-loop-b
invariant-loop-b g l = record {
  gathered : Gathers (g.K.Sink.held l.fn.sink) (g.K.Sink.held l.sink) l.fn.page l.page (box_lines None (take l.b-index l.boxes));
  layer : l.before ≡ layer_behind None (take l.b-index l.boxes);
  count : g.K.Sink.faults l.fn.sink ≤ g.K.Sink.faults l.sink;
}
