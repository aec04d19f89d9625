use Rattle.std.proofs.Common.{◌≡◌, ℕ, ◌<◌}
use Rattle.switch_sim.specs.Nets.{fixed_at}
use Rattle.switch_sim.specs.Simulation.{level_at}
use Rattle.switch_sim.specs.Nets.{first_level}
use Rattle.switch_sim.proofs.settling.forget.Given as goal

abbrev pub invariant-loop-net : goal.invariant-loop-net
invariant-loop-net l = (k : ℕ) → k < l.net → level_at l.levels k ≡ first_level (fixed_at l.fixed k)
