use Rattle.std.proofs.Common.{◌<◌, List, inr, subst, sym, ap, ◌∙◌}
use Rattle.std.specs.List.{AllPairs}
use Rattle.switch_net.specs.Settling.{fixed_level}
use Rattle.switch_net.specs.Ternary.{SettledLevels}
use Rattle.switch_net.specs.Validity.{AreDistinct}
use Rattle.switch_net.specs.declared.network.Level.{Level}
use Rattle.switch_sim.specs.Simulation.{level_at}
use Rattle.switch_sim.specs.Nets.{first_level}
use Rattle.switch_sim.proofs.Settles.{starts, all_due}
use Rattle.switch_sim.proofs.settling.settle_levels.Goals as goal

pub fix-requires-clause-distinct : goal.fix-requires-clause-distinct
fix-requires-clause-distinct c = subst (AllPairs AreDistinct) (sym c.pads.ensures.pads) c.pads.ensures.valid.distinct

pub tell_all-requires-clause-scene : goal.tell_all-requires-clause-scene
tell_all-requires-clause-scene c = record {
  valid = c.pads.ensures.valid;
  fixed = λ net. c.fix.ensures.levels net ∙ ap (λ ps. fixed_level ps c.args.drive.now net) c.pads.ensures.pads;
  chains = c.requires.chains;
  last = c.requires.last;
  gates = c.requires.gates;
  gates_last = c.requires.gates_last;
  fixed_size = c.fix.ensures.size ∙ c.requires.fixed_size;
  charges_size = c.copy_from_slice.auto.self ∙ c.requires.charges_size;
}

pub tell_all-requires-clause-unknown : goal.tell_all-requires-clause-unknown
tell_all-requires-clause-unknown c =
    let size = c.requires.levels_size in
    starts c.args.network.now c.args.drive.now (level_at c.forget.new.levels) (λ net lt.
    c.forget.ensures.levels net (subst (λ n. net < n) (sym size) lt)
    ∙ ap first_level (c.fix.ensures.levels net ∙ ap (λ ps. fixed_level ps c.args.drive.now net) c.pads.ensures.pads))

pub tell_all-requires-clause-handled : goal.tell_all-requires-clause-handled
tell_all-requires-clause-handled c = all_due c.args.network.now c.args.drive.now _ _ _ c.begin.ensures.due

pub tell_all-requires-clause-listed : goal.tell_all-requires-clause-listed
tell_all-requires-clause-listed c = λ net free due.
    inr (c.begin.ensures.waits net (subst (λ n. net < n) (sym c.nets.ensures) free.0)
    (c.fix.ensures.levels net ∙ ap (λ ps. fixed_level ps c.args.drive.now net) c.pads.ensures.pads ∙ free.1))

pub returns-clause-levels : goal.returns-clause-levels
returns-clause-levels c =
    subst (λ (l : List Level). SettledLevels c.args.network.now c.args.drive.now (level_at l) (level_at c.tell_all.new.levels)) c.copy_from_slice.ensures.after
    c.tell_all.ensures.levels
