use Rattle.std.proofs.Common.{◌≡◌, ℕ, ◌<◌, get_or, true, false, length}
use Rattle.switch_sim.specs.Waiting.{Waits}
use Rattle.switch_sim.proofs.telling.unmark.Given as goal

abbrev pub invariant-loop-at : goal.invariant-loop-at
invariant-loop-at l = record {
  size : length l.seen ≡ length l.fn.seen;
  off : (i : ℕ) → i < l.at → get_or l.seen (get_or l.group.nets i 0) false ≡ false;
  rest : (k : ℕ) → (Waits l.group.nets k → ⊥) → get_or l.seen k false ≡ get_or l.fn.seen k false;
  only : (k : ℕ) → get_or l.seen k false ≡ true → get_or l.fn.seen k false ≡ true;
}
