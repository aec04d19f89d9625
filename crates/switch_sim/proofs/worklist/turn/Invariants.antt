use Rattle.std.proofs.Common.{◌≡◌, ◌⊎◌, ◌+◌, ◌≤◌, ℕ, length}
use Rattle.switch_sim.specs.Waiting.{Waits}
use Rattle.switch_sim.proofs.worklist.turn.Given as goal

abbrev pub invariant-loop-net : goal.invariant-loop-net
invariant-loop-net l = record {
  now_room : l.now.size ≡ l.fn.now.size;
  next_room : l.next.size ≡ l.fn.next.size;
  kept : (net : ℕ) → Waits l.fn.now.nets net ⊎ Waits l.fn.next.nets net → Waits l.now.nets net ⊎ Waits l.next.nets net;
  most : length l.now.nets + length l.next.nets ≤ length l.fn.now.nets + length l.fn.next.nets;
}

abbrev pub decreases-loop-net : goal.decreases-loop-net
decreases-loop-net l = length l.next.nets
