use Rattle.std.proofs.Common.{◌≡◌, ℕ, ◌<◌}
use Rattle.std.specs.Prelude.{None}
use Rattle.switch_sim.specs.Nets.{fixed_at}
use Rattle.switch_sim.specs.Waiting.{Waits}
use Rattle.switch_sim.proofs.settling.begin.Given as goal

abbrev pub invariant-loop-net : goal.invariant-loop-net
invariant-loop-net l = record {
  room : l.next.size ≡ l.fn.next.size;
  waits : (k : ℕ) → k < l.net → fixed_at l.fixed k ≡ None → Waits l.next.nets k;
}
