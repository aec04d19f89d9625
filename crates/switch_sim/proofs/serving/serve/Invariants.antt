use Rattle.std.proofs.Common.{◌-◌, ◌≤◌, length, map}
use Rattle.switch_sim.specs.Serving.{dues_at}
use Rattle.switch_sim.specs.Simulation.{level_at}
use Rattle.switch_sim.proofs.Progress.{Progress}
use Rattle.switch_sim.proofs.serving.serve.Given as goal

abbrev pub invariant-loop-at : goal.invariant-loop-at
invariant-loop-at g l = record {
  progress : Progress l.asked (dues_at l.pads l.clock (level_at l.sim.levels))
      (map (λ b. record { manner = (goal.Probe-dyn g (b.vtable, b.value)).manner b.value; seen = (goal.Probe-dyn g (b.vtable, b.value)).seen b.value }) l.fn.probes.items)
      (map (λ b. record { manner = (goal.Probe-dyn g (b.vtable, b.value)).manner b.value; seen = (goal.Probe-dyn g (b.vtable, b.value)).seen b.value }) l.probes.items)
      l.at (g.K.Sink.held l.fn.sink) (g.K.Sink.held l.sink);
  never_falls : g.K.Sink.faults l.fn.sink ≤ g.K.Sink.faults l.sink;
}

abbrev pub decreases-loop-at : goal.decreases-loop-at
decreases-loop-at g l = length l.probes.items - l.at
