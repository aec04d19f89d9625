use Rattle.std.proofs.Common.{◌≤◌, take, map}
use Rattle.std.specs.Io.KnownBytes.{Appends}
use Rattle.switch_sim.specs.Serving.{texts_at_end}
use Rattle.switch_sim.proofs.serving.put_texts.Given as goal

abbrev pub invariant-loop-probe : goal.invariant-loop-probe
invariant-loop-probe g l = record {
  gained : Appends (g.K.Sink.held l.fn.sink) (g.K.Sink.held l.sink)
      (texts_at_end l.asked (map (λ b. record { manner = (goal.Probe-dyn g (b.vtable, b.value)).manner b.value; seen = (goal.Probe-dyn g (b.vtable, b.value)).seen b.value }) (take l.probe-index l.probes)));
  never_falls : g.K.Sink.faults l.fn.sink ≤ g.K.Sink.faults l.sink;
}
