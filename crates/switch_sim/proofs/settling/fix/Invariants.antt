use Rattle.std.proofs.Common.{◌≡◌, ℕ, take}
use Rattle.switch_net.specs.Settling.{fixed_level}
use Rattle.switch_sim.specs.Nets.{fixed_at}
use Rattle.switch_sim.proofs.settling.fix.Given as goal

abbrev pub invariant-loop-at : goal.invariant-loop-at
invariant-loop-at l = (net : ℕ) → fixed_at l.fixed net ≡ fixed_level (take l.at l.pads) l.drive net
