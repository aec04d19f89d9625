use Rattle.std.proofs.Common.{◌≡◌, ◌≤◌, take, map}
use Rattle.switch_sim.specs.Simulation.{level_at}
use Rattle.switch_sim.proofs.ServedRuns.{Served}
use Rattle.switch_sim.proofs.run.run_clocks.Given as goal

abbrev pub invariant-loop-at : goal.invariant-loop-at
invariant-loop-at g l = record {
  served : Served l.network l.asked (take l.at l.trace) (level_at l.sim.levels)
      (map (λ b. record { manner = (goal.Probe-dyn g (b.vtable, b.value)).manner b.value; seen = (goal.Probe-dyn g (b.vtable, b.value)).seen b.value }) l.fn.probes.items)
      (map (λ b. record { manner = (goal.Probe-dyn g (b.vtable, b.value)).manner b.value; seen = (goal.Probe-dyn g (b.vtable, b.value)).seen b.value }) l.probes.items)
      (g.K.Sink.held l.fn.sink) (g.K.Sink.held l.sink);
  circuit : l.sim.circuit ≡ l.network;
  never_falls : g.K.Sink.faults l.fn.sink ≤ g.K.Sink.faults l.sink;
}
