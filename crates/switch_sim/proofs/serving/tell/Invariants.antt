use Rattle.switch_sim.specs.Simulation.{level_at}
use Rattle.switch_sim.proofs.ToldPads.{Told}
use Rattle.switch_sim.proofs.serving.tell.Given as goal

abbrev pub invariant-loop-number : goal.invariant-loop-number
invariant-loop-number g l =
    Told l.clock (level_at l.sim.levels) l.pads ((goal.Probe-dyn g (l.fn.probe.vtable, l.fn.probe.value)).manner l.fn.probe.value)
    ((goal.Probe-dyn g (l.fn.probe.vtable, l.fn.probe.value)).seen l.fn.probe.value) l.number
    ((goal.Probe-dyn g (l.probe.vtable, l.probe.value)).manner l.probe.value)
    ((goal.Probe-dyn g (l.probe.vtable, l.probe.value)).seen l.probe.value)
