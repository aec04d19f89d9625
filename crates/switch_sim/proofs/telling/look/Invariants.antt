use Rattle.std.proofs.Common.{◌≡◌, ◌⊎◌, ℕ, ◌<◌, get_or, true, false, length}
use Rattle.switch_sim.specs.Grouping.{AreRight}
use Rattle.switch_sim.specs.Waiting.{Waits}
use Rattle.switch_sim.proofs.telling.look.Given as goal

abbrev pub invariant-loop-at : goal.invariant-loop-at
invariant-loop-at l = record {
  room : l.part.size ≡ l.fn.part.size;
  seen_length : length l.seen ≡ length l.fn.seen;
  told_length : length l.told ≡ length l.fn.told;
  right : AreRight l.sight l.group.nets l.seen l.told;
  seen : (i : ℕ) → i < l.at → get_or l.seen (get_or l.group.nets i 0) false ≡ true;
  kept : (k : ℕ) → get_or l.initial.seen k false ≡ true → get_or l.seen k false ≡ true;
  only : (k : ℕ) → get_or l.seen k false ≡ true → (get_or l.fn.seen k false ≡ true) ⊎ Waits l.group.nets k;
}
