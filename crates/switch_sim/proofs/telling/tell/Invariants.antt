use Rattle.std.proofs.Common.{◌≡◌, ℕ, ◌<◌, Bool, get_or, true, false, length}
use Rattle.std.specs.Prelude.{Some, None}
use Rattle.switch_net.specs.LeastLevels.{Tells}
use Rattle.switch_net.specs.Settling.{IsFree}
use Rattle.switch_net.specs.declared.network.Level.TheVariants.{Unknown}
use Rattle.switch_sim.specs.Grouping.{told_at}
use Rattle.switch_sim.specs.DueNets.{AllAreWoken, Wakes}
use Rattle.switch_sim.specs.Simulation.{level_at}
use Rattle.switch_sim.specs.ToldLevels.{LeadsOn, unknowns}
use Rattle.switch_sim.specs.Waiting.{Waits}
use Rattle.switch_sim.proofs.telling.tell.Given as goal

abbrev pub invariant-loop-at : goal.invariant-loop-at
invariant-loop-at l = record {
  levels_size : length l.levels ≡ length l.fn.levels;
  seen_size : length l.seen ≡ length l.fn.seen;
  watch_size : length l.watch ≡ length l.fn.watch;
  next_room : l.next.size ≡ l.fn.next.size;
  leads : ((k : ℕ) → Waits l.group.nets k → IsFree l.scene.network.now l.scene.drive.now k)
      → ((k : ℕ) (told_as : Bool) → Waits l.group.nets k → told_at l.told k ≡ Some told_as
      → Tells l.scene.network.now l.scene.drive.now (level_at l.scene.charges.now) (level_at l.fn.levels) k told_as)
      → LeadsOn l.scene.network.now l.scene.drive.now l.scene.charges.now l.fn.levels l.levels;
  none : (i : ℕ) → i < l.at → level_at l.levels (get_or l.group.nets i 0) ≡ Unknown → told_at l.told (get_or l.group.nets i 0) ≡ None;
  woken : AllAreWoken l.scene.network.now l.scene.drive.now l.fn.levels l.levels l.seen;
  wakes : Wakes l.fn.seen l.fn.next.nets l.seen l.next.nets;
  quiet : l.changed ≡ false → l.next.nets ≡ l.fn.next.nets;
  rest : l.changed ≡ false → l.levels ≡ l.fn.levels;
  fewer : l.changed ≡ true → unknowns l.levels < unknowns l.fn.levels;
}
