use Rattle.std.proofs.Common.{◌≡◌, ℕ, ◌<◌, get_or, true, false, length}
use Rattle.switch_sim.specs.Grouping.{told_at}
use Rattle.switch_sim.specs.Waiting.{Waits}
use Rattle.switch_sim.proofs.telling.put_down.Given as goal

abbrev pub invariant-loop-at : goal.invariant-loop-at
invariant-loop-at l = record {
  seen_length : length l.seen ≡ length l.fn.seen;
  told_length : length l.told ≡ length l.fn.told;
  seen : (i : ℕ) → i < l.at → get_or l.seen (get_or l.part.nets i 0) false ≡ true;
  told : (i : ℕ) → i < l.at → told_at l.told (get_or l.part.nets i 0) ≡ l.level;
  seen_rest : (k : ℕ) → (Waits l.part.nets k → ⊥) → get_or l.seen k false ≡ get_or l.fn.seen k false;
  told_rest : (k : ℕ) → (Waits l.part.nets k → ⊥) → told_at l.told k ≡ told_at l.fn.told k;
}
