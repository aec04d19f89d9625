use Rattle.std.proofs.Common.{◌≡◌, ◌++◌, take}
use Rattle.switch_sim.specs.Simulation.{level_at}
use Rattle.switch_sim.specs.TraceLines.{output_bytes}
use Rattle.switch_sim.proofs.run.push_outputs.Given as goal

abbrev pub invariant-loop-pad : goal.invariant-loop-pad
invariant-loop-pad l = l.line.items ≡ l.fn.line.items ++ output_bytes (take l.pad-index l.pads) (level_at l.sim.levels)
